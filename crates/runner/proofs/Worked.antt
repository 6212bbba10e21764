-- The worked steps of table A are what the step rules give: by computing them. Assumes nothing.
use mathlib.Core.Path.{refl}
use Rattle.laws.specs.Sum.{sum}
use Rattle.laws.specs.Found.{first, best}
use Rattle.laws.specs.Up.{up_to}
use Rattle.runner.specs.Step.{stepped}
use Rattle.runner.specs.Worked.{steps, WorkedSteps}

pub worked_steps : WorkedSteps
unfolding steps stepped up_to first best sum
worked_steps = record { in_time = refl; late = refl }
