-- What the type of a well-formed table says. Assumes nothing.
use Rattle.table.specs.declared.well_formed.WellFormedTable.{WellFormedTable}
use Rattle.std.proofs.Common.{◌≡◌}
use denote.Struct.Props.{props}
use mathlib.Core.HLevel.{is_prop→PathP}
use Rattle.table.specs.Rules.{judged, fine, WellFormed}
use Rattle.table.specs.Ranged.{HighInWidth}
use Rattle.table.proofs.WellFormed.{judged_well_formed}

pub well_formed : (t : WellFormedTable) → WellFormed t.table.now
well_formed t = judged_well_formed t.table.now t.in_width t.judged

-- one table, one value of the type
pub same_table : (t u : WellFormedTable) → t.table ≡ u.table → t ≡ u
same_table t u e = λ i.
    record {
      table = e i;
      judged = is_prop→PathP (λ j. judged (e j).now ≡ fine) (λ j. hlevel props) t.judged u.judged i;
      in_width = is_prop→PathP (λ j. HighInWidth (e j).now) (λ j. hlevel props) t.in_width u.in_width i;
    }
