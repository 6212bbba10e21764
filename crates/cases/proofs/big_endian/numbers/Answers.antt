-- `cases::big_endian::numbers` answers the numbers of two bytes. Assumes nothing.
use Rattle.std.proofs.Common.{rules, ◌≡◌, ◌*◌, List, ℕ, [], get_or, drop, ap, ◌∙◌}
use Rattle.std.specs.Int.{w16, from_be_bytes}
use Rattle.cases.proofs.Numbers.{two_bytes, pair_at, each_entry}
use Rattle.cases.proofs.big_endian.numbers.Goals as goal

pub returns : goal.returns
returns g c = λ i below.
    let s = c.args.bytes.now in
    each_entry g.row.N (λ k y. y ≡ from_be_bytes w16 (get_or c.as_chunks.result.0.now k [])) 0
    (λ k y q here call. search rules) c.from_fn.result c.from_fn.ensures.items i below
    ∙ ap (from_be_bytes w16)
    (ap (λ (pairs : List (List ℕ)). get_or pairs i []) c.as_chunks.ensures.front ∙ pair_at s g.row.N i below c.requires)
    ∙ two_bytes (drop (2 * i) s)
