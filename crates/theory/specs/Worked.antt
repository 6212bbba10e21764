-- The worked list of the rules: tables A and B, and what holds of them.
use Rattle.std.specs.Prelude.{List, [], ◌∷◌, ℕ, get_or}
use Rattle.theory.specs.Grants.{is}
use Rattle.theory.specs.Bounds.{Least, Most}
use Rattle.theory.specs.Tree.{Tree, grants}
use Rattle.theory.specs.Task.{Tasks}
use Rattle.theory.specs.Verdict.{Meets, Short, Wait}

abbrev column : List ℕ → ℕ → ℕ
column xs v = get_or xs v 0

-- Queue 1 has the root's tick and three more on the first branch; queue 2 has three on the second.
abbrev pub A : Tree
A = record {
  size = 3;
  period = 4;
  parent = column (0 ∷ 0 ∷ 0 ∷ []);
  queue = column (1 ∷ 1 ∷ 2 ∷ []);
  ticks = column (1 ∷ 3 ∷ 3 ∷ []);
  variable = λ v. 0;
  low = column (0 ∷ 0 ∷ 100 ∷ []);
  high = column (65535 ∷ 99 ∷ 65535 ∷ []);
}

-- Queue 1 has two ticks on each branch: early on the first, late on the second.
abbrev pub B : Tree
B = record {
  size = 5;
  period = 5;
  parent = column (0 ∷ 0 ∷ 0 ∷ 1 ∷ 2 ∷ []);
  queue = column (0 ∷ 1 ∷ 0 ∷ 0 ∷ 1 ∷ []);
  ticks = column (1 ∷ 2 ∷ 2 ∷ 2 ∷ 2 ∷ []);
  variable = λ v. 0;
  low = column (0 ∷ 0 ∷ 10 ∷ 0 ∷ 0 ∷ []);
  high = column (65535 ∷ 9 ∷ 65535 ∷ 65535 ∷ 65535 ∷ []);
}

-- A's one task, with deadline D.
abbrev pub one : ℕ → Tasks
one D = record { number = 1; task = λ i. record { queue = 1; work = 1; deadline = D; gap = 4 } }

pub record Worked : Type 0 where
  pub a_least_3 : Least (grants A) (is 1) 3 0
  pub a_least_4 : Least (grants A) (is 1) 4 1
  pub a_least_7 : Least (grants A) (is 1) 7 1
  pub a_least_8 : Least (grants A) (is 1) 8 2
  pub a_most_4 : Most (grants A) (is 2) 4 3
  pub a_most_5 : Most (grants A) (is 2) 5 4
  pub b_least_5 : Least (grants B) (is 1) 5 0
  pub b_least_6 : Least (grants B) (is 1) 6 1
  pub b_least_7 : Least (grants B) (is 1) 7 2
  pub b_least_11 : Least (grants B) (is 1) 11 3
  pub a_wait_2 : Wait (grants A) (is 1) 2 8
  pub a_meets : Meets (grants A) (one 4) 1
  pub a_short : Short (grants A) (one 3) 1 3 1 0
