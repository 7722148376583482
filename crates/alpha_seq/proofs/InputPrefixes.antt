-- What steps do over an input, they do over its front that they took, and all of it is that front and what is left.
use Rattle.std.proofs.Common.{◌≡◌, ℕ, zero, suc, List, [], ◌∷◌, ◌++◌, length, take, drop, refl, sym, ap, subst, ◌∙◌}
use Rattle.std.proofs.Common.{append_assoc}
use Rattle.std.proofs.Math.Seq.{drop-append_seam}
use Rattle.std.proofs.lemmas.List.{take-append-drop}
use Rattle.alpha_seq.specs.State.{Event}
use Rattle.alpha_seq.specs.Run.{asked, given, taken, left_by, Fed}
use Rattle.alpha_seq.proofs.InputRequests.{drop-taken}

-- a front that is taken is the same of a list that ends early
pub take-taken_prefix : (n : ℕ) (l xs ys : List ℕ) → xs ++ ys ≡ drop n l → take n l ≡ take n (take n l ++ xs)
take-taken_prefix zero l xs ys e = refl
take-taken_prefix (suc n) [] [] ys e = refl
take-taken_prefix (suc n) [] (x ∷ xs) ys e = absurd (let f : x ∷ (xs ++ ys) ≡ [] = e in cc)
take-taken_prefix (suc n) (x ∷ l) xs ys e = ap (λ k. x ∷ k) (take-taken_prefix n l xs ys e)

pub Fed-taken_append : (events : List Event) (input left : List ℕ) → Fed input events left
    → taken events ++ left ≡ input
Fed-taken_append [] input left fed = sym fed
Fed-taken_append (e ∷ events) input left fed =
    let rest = Fed-taken_append events (left_by e input) left fed.1 in
    append_assoc (given e) (taken events) left
    ∙ (ap (λ l. given e ++ l) rest
    ∙ (ap (λ l. l ++ drop (length l) input) fed.0
    ∙ (ap (λ l. take (asked e) input ++ l) (drop-taken (asked e) input) ∙ take-append-drop (asked e) input)))

pub Fed-taken_only : (events : List Event) (input left : List ℕ) → Fed input events left → Fed (taken events) events []
Fed-taken_only [] input left fed = refl
Fed-taken_only (e ∷ events) input left fed =
    let rest = Fed-taken_append events (left_by e input) left fed.1 in
    let here : taken events ++ left ≡ drop (asked e) input =
    rest ∙ (ap (λ l. drop (length l) input) fed.0 ∙ drop-taken (asked e) input) in (
      fed.0
          ∙ (take-taken_prefix (asked e) input (taken events) left here
          ∙ ap (λ l. take (asked e) (l ++ taken events)) (sym fed.0)),
      subst (λ l. Fed l events []) (sym (drop-append_seam (given e) (taken events)))
          (Fed-taken_only events (left_by e input) left fed.1),
    )
