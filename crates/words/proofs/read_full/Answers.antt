use Rattle.std.proofs.Common.{◌≡◌, ℕ, ◌+◌, ◌-◌, ◌≤◌, List, ◌++◌, rules, length, take, drop, sym, ap, ◌∙◌, subst, le_refl, drop_at, length-take-le}
use Rattle.std.proofs.lemmas.Slice.{take-put_mid_below}
use Rattle.std.proofs.KnownBytes.{Consumes-trans}
use Rattle.std.specs.Io.KnownBytes.{Consumes}
use borrow.Rule.Slice.PartMut.{put_mid, post_of}
use lib.Seq.{take-add, take-append-le}
use Rattle.words.proofs.read_full.Goals as goal

-- The front of xs, with n of ys put behind it.
front : (a k n : ℕ) (xs ys : List ℕ) → a ≤ length xs → n ≤ length ys → take a xs ++ take n ys ≡ take (a + n) (put_mid a k xs ys)
front a k n xs ys within fits =
    let after = post_of a k xs in
    ap (λ l. take a xs ++ l) (sym (take-append-le n ys after fits) ∙ ap (take n) (sym (drop_at (take a xs) (ys ++ after) a (length-take-le a xs within))))
    ∙ ap (λ l. l ++ take n (drop a (put_mid a k xs ys))) (sym (take-put_mid_below _ _ _ _ _ (le_refl _) within))
    ∙ sym (take-add a n (put_mid a k xs ys))

pub loop-done-preserved : goal.loop-done-preserved
loop-done-preserved g c =
    let joined = front c.loop-done.done (length c.loop-done.space - c.loop-done.done) c.in_ok-n.n c.loop-done.space c.read.new.buf c.loop-done.invariant.1 c.in_ok-n.ensures.bound.0 in
    (search rules, search rules, subst (Consumes _ _) joined (Consumes-trans _ _ _ _ _ c.loop-done.invariant.2 c.in_ok-n.ensures.bytes.0))
