-- From a computed number to what an answer says of it. Assumes nothing.
use mathlib.Core.Path.{◌≡◌, refl, sym, ap, subst, ◌∙◌}
use mathlib.Core.Bool.{Bool, true, false}
use Prim.Native.Nat.{ℕ, ◌-◌}
use Rattle.theory.specs.Grants.{is, others}
use Rattle.theory.specs.Bounds.{Least, Most}
use Rattle.theory.specs.Tree.{Tree, Formed, grants, CycleLeast, CycleMost}
use Rattle.theory.specs.Cycles.{system, cycle_least, least_of}
use Rattle.theory.proofs.Bounds.{most_of_least}
use Rattle.theory.proofs.Runs.{tree_least}
use Rattle.theory.proofs.Period.{cycle_least_law, cycle_most_of_least}
use Rattle.table.specs.declared.Refusal.{Refusal}
use Rattle.bounds.specs.Flagged.{asks}
use Rattle.bounds.specs.Questions.{Answer}

module _ (r a : Refusal) (A : ℕ → Type 0) (e : a ≡ r) where
  number_is : r.number ≡ a.number
  number_is = ap (λ (x : Refusal). x.number) (sym e)

  pub answer_refused : (a.number ≡ 0 → ⊥) → Answer r A (record { refusal = a; ticks = 0 })
  answer_refused n = record { refusal = e; says = λ z. absurd (n (sym number_is ∙ z)); silent = λ z. refl }

  pub answer_says : (m : ℕ) → a.number ≡ 0 → A m → Answer r A (record { refusal = a; ticks = m })
  answer_says m z s = record { refusal = e; says = λ y. s; silent = λ y. absurd (y (number_is ∙ z)) }

module _ (t : Tree) (formed : Formed t) (q m : ℕ) where
  least_by : (p p' : ℕ → Bool) (w : ℕ) → p ≡ p' → m ≡ least_of (system t) p w → Least (grants t) p' w m
  least_by p p' w f e = subst (Least (grants t) p' w) (sym (e ∙ ap (λ x. least_of (system t) x w) f)) (tree_least t formed p' w)

  pub least_says : (w : ℕ) → m ≡ least_of (system t) (asks true q) w → Least (grants t) (is q) w m
  least_says w = least_by (asks true q) (is q) w refl

  pub most_says : (w : ℕ) → m ≡ least_of (system t) (asks false q) w → Most (grants t) (is q) w (w - m)
  most_says w e = most_of_least (grants t) (least_by (asks false q) (others (is q)) w refl e)

  cycle_by : (p p' : ℕ → Bool) → p ≡ p' → m ≡ cycle_least (system t) p → CycleLeast t p' m
  cycle_by p p' f e = subst (CycleLeast t p') (sym (e ∙ ap (λ x. cycle_least (system t) x) f)) (cycle_least_law t formed p')

  pub cycle_least_says : m ≡ cycle_least (system t) (asks true q) → CycleLeast t (is q) m
  cycle_least_says = cycle_by (asks true q) (is q) refl

  pub cycle_most_says : m ≡ cycle_least (system t) (asks false q) → CycleMost t (is q) (t.period - m)
  cycle_most_says e = cycle_most_of_least t formed (is q) m (cycle_by (asks false q) (others (is q)) refl e)
