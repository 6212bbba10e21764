use Rattle.std.proofs.Common.{◌≡◌, sym, ap, ◌∙◌, not, T, ℕ, suc, ◌+◌, ◌-◌, ◌≤◌, ◌<◌, length, drop, length-drop, arith}
use Rattle.std.proofs.lemmas.Result.{err_from_is_err_and}
use Rattle.laws.proofs.Parts.{rest}
use Rattle.laws.proofs.Cases.{of_true, of_false}
use Rattle.table.specs.declared.Table.{Table}
use Rattle.format.specs.declared.refusals.Kind.TheVariants.{Location, Task}
use Rattle.format.specs.Format.{header_of, location_of, task_of}
use Rattle.format.specs.Tests.{left, header_number, field_number, is_location, names_location}
use Rattle.record.specs.Reading.{refused, with_location, with_task, most_fields}
use Rattle.record.proofs.Answered.{passed_number, passed_answer, failed_number}
use Rattle.record.proofs.Fields.{header_refused, header_fine, header_met, location_met, task_met, location_read, task_read, field_refused, end_without_location, end_read}
use Rattle.record.proofs.Length.{front_met}
use Rattle.record.proofs.front.fields.Goals.{In_ok-placed, In_ok-kind}
use Rattle.record.proofs.front.fields.Goals as goal

-- the calls that are left after one more field
abbrev later : Table → ℕ
later t = 160 - (t.locations + t.tasks)

some_left : (t : Table) → t.locations ≤ 128 → t.tasks ≤ 32 → most_fields - (t.locations + t.tasks) ≡ suc (later t)
some_left t n m = omega arith

-- ---- a header that is not refused

headed : (c : In_ok-placed) → header_number c.args.s.now ≡ 0
headed c = passed_number 0 _ _ _ c.in_ok-placed.ensures c.whole_header.ensures

header_long : (c : In_ok-placed) → 7 ≤ length c.args.s.now
header_long c = (header_met _ (headed c)).1

-- ---- a field that is not refused: that it is whole, and that there is room for it

passed : (c : In_ok-kind) → field_number c.args.s.now c.loop-at.at c.loop-at.table.locations c.loop-at.table.tasks ≡ 0
passed c = passed_number c.loop-at.at _ _ _ c.in_ok-kind.ensures c.whole_field-met.ensures.refused

kind_is : (c : In_ok-kind) → names_location c.in_ok-kind.kind ≡ is_location c.args.s.now c.loop-at.at c.loop-at.table.tasks
kind_is c = passed_answer c.loop-at.at 0 _ _ (λ k. names_location k ≡ is_location c.args.s.now c.loop-at.at c.loop-at.table.tasks) c.in_ok-kind.ensures c.whole_field-met.ensures.kind

front_whole : (c : In_ok-kind) → c.loop-at.at + 3 ≤ length c.args.s.now
front_whole c = omega (arith, front_met c.args.s.now c.loop-at.at c.loop-at.table.locations c.loop-at.table.tasks (passed c))

location_whole : (c : In_ok-kind) → c.in_ok-kind.kind ≡ Location
    → T (is_location c.args.s.now c.loop-at.at c.loop-at.table.tasks) × (c.loop-at.table.locations < 128) × (12 ≤ left c.args.s.now c.loop-at.at)
location_whole c k =
    let here = of_true _ (sym (kind_is c) ∙ ap names_location k) in
    let m = location_met c.args.s.now c.loop-at.at c.loop-at.table.locations c.loop-at.table.tasks (passed c) here in
    (here, m.0, m.1)

task_whole : (c : In_ok-kind) → c.in_ok-kind.kind ≡ Task
    → T (not (is_location c.args.s.now c.loop-at.at c.loop-at.table.tasks)) × (c.loop-at.table.tasks < 32) × (10 ≤ left c.args.s.now c.loop-at.at)
task_whole c k =
    let here = of_false _ (sym (kind_is c) ∙ ap names_location k) in
    let m = task_met c.args.s.now c.loop-at.at c.loop-at.table.locations c.loop-at.table.tasks (passed c) here in
    (here, m.1, m.2)

-- ---- the goals

pub returns-in_err-placed : goal.returns-in_err-placed
returns-in_err-placed c =
    let y = err_from_is_err_and c.from_residual.result c.from_residual.ensures.1 in
    let (some, met) = failed_number 0 _ _ _ c.in_err-placed.ensures c.whole_header.ensures in
    rw (y.1, y.2) (ap refused met ∙ sym (header_refused _ some))

pub slice_bounds-header-count : goal.slice_bounds-header-count
slice_bounds-header-count c = omega (arith, header_long (goal.at.slice_bounds-header-count c).In_ok-placed)

pub slice_bounds-header-start : goal.slice_bounds-header-start
slice_bounds-header-start c = omega (arith, header_long (goal.at.slice_bounds-header-start c).In_ok-placed)

pub header-table-requires : goal.header-table-requires
header-table-requires c = rw rest (rw length-drop (omega (arith, header_long (goal.at.header-table-requires c).In_ok-placed)))

pub loop-at-init : goal.loop-at-init
loop-at-init c =
    let met = (goal.at.loop-at-init c).In_ok-placed in
    let long = header_long met in
    let e : c.header-table.result ≡ header_of (drop 3 c.args.s.now) = c.header-table.ensures ∙ ap header_of (rest c.args.s.now 3) in
    rw e (record { taken_up = omega arith; locations_fit = omega arith; tasks_fit = omega arith; in_bounds = omega arith; reads_on = header_fine c.args.s.now (headed met) })

pub returns-in_err-kind : goal.returns-in_err-kind
returns-in_err-kind c =
    let l = c.loop-at in
    let y = err_from_is_err_and c.from_residual-in_err-kind.result c.from_residual-in_err-kind.ensures.1 in
    let (some, met) = failed_number l.at _ _ _ c.in_err-kind.ensures c.whole_field-met.ensures.refused in
    let here = field_refused _ _ _ _ _ (some_left l.table l.invariant.locations_fit l.invariant.tasks_fit) c.loop-at-test.true some in
    rw (y.1, y.2) (ap refused met ∙ sym (l.invariant.reads_on ∙ here))

pub slice_bounds-payload-count : goal.slice_bounds-payload-count
slice_bounds-payload-count c = front_whole (goal.at.slice_bounds-payload-count c).In_ok-kind

pub slice_bounds-payload-start : goal.slice_bounds-payload-start
slice_bounds-payload-start c = omega (arith, front_whole (goal.at.slice_bounds-payload-start c).In_ok-kind)

pub location-requires : goal.location-requires
location-requires c =
    let w = location_whole (goal.at.location-requires c).In_ok-kind c.in-Location.is in
    rw rest (rw length-drop (omega (arith, w.2)))

pub add_location-requires : goal.add_location-requires
add_location-requires c = (location_whole (goal.at.add_location-requires c).In_ok-kind c.in-Location.is).1

pub loop-at-preserved-in-Location : goal.loop-at-preserved-in-Location
loop-at-preserved-in-Location c =
    let l = c.loop-at in
    let s = c.args.s.now in
    let met = (goal.at.loop-at-preserved-in-Location c).In_ok-kind in
    let (here, room, whole) = location_whole met c.in-Location.is in
    let x : c.location.result ≡ location_of (drop (l.at + 3) s) = c.location.ensures ∙ ap location_of (rest s (l.at + 3)) in
    let k : most_fields - (l.table.locations + l.table.tasks) ≡ suc (most_fields - (l.table.locations + 1 + l.table.tasks)) = omega arith in
    let next = location_read _ _ s l.at l.table k c.loop-at-test.true (passed met) here in
    rw (c.add_location.ensures ∙ ap (with_location l.table) x) (record { taken_up = omega arith; locations_fit = omega arith; tasks_fit = omega arith; in_bounds = omega arith; reads_on = l.invariant.reads_on ∙ next })

pub task-requires : goal.task-requires
task-requires c =
    let w = task_whole (goal.at.task-requires c).In_ok-kind c.in-Task.is in
    rw rest (rw length-drop (omega (arith, w.2)))

pub add_task-requires : goal.add_task-requires
add_task-requires c = (task_whole (goal.at.add_task-requires c).In_ok-kind c.in-Task.is).1

pub loop-at-preserved : goal.loop-at-preserved
loop-at-preserved c =
    let l = c.loop-at in
    let s = c.args.s.now in
    let met = (goal.at.loop-at-preserved c).In_ok-kind in
    let (here, room, whole) = task_whole met c.in-Task.is in
    let x : c.task.result ≡ task_of (drop (l.at + 3) s) = c.task.ensures ∙ ap task_of (rest s (l.at + 3)) in
    let k : most_fields - (l.table.locations + l.table.tasks) ≡ suc (most_fields - (l.table.locations + (l.table.tasks + 1))) = omega arith in
    let next = task_read _ _ s l.at l.table k c.loop-at-test.true (passed met) here in
    rw (c.add_task.ensures ∙ ap (with_task l.table) x) (record { taken_up = omega arith; locations_fit = omega arith; tasks_fit = omega arith; in_bounds = omega arith; reads_on = l.invariant.reads_on ∙ next })

pub returns-then-table-eq0 : goal.returns-then-table-eq0
returns-then-table-eq0 c =
    let l = c.loop-at in
    sym (l.invariant.reads_on ∙ end_without_location _ _ _ _ _ (some_left l.table l.invariant.locations_fit l.invariant.tasks_fit) c.loop-at-test.false c.if-table-eq0.true)

pub returns : goal.returns
returns c =
    let l = c.loop-at in
    sym (l.invariant.reads_on ∙ end_read _ _ _ _ _ (some_left l.table l.invariant.locations_fit l.invariant.tasks_fit) c.loop-at-test.false c.if-table-eq0.false)
