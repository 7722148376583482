use Rattle.std.proofs.Common.{◌≡◌, ◌∙◌, ℕ, List, [], ◌∷◌, ◌+◌, ◌<◌, true, eqb, length, get_or, ap, arith}
use Prim.Native.Nat.{zero, suc}
use Rattle.std.proofs.lemmas.Bool.Decides.{nat_tests}
use Rattle.std.proofs.lemmas.Bool.{and_parts}
use Rattle.alpha_quick.specs.Parts.{class_of, are_classes}
use Rattle.alpha_quick.proofs.lexeme.class_in.Goals as goal

class-at : (n : ℕ) (cs : List ℕ) (i m : ℕ) → are_classes n cs ≡ true → i < length cs → m ≡ n + i
    → get_or cs i 0 ≡ class_of m
class-at n [] i m h l e = absurd (omega arith)
class-at n (c ∷ cs) zero m h l e =
    let (a, b) = and_parts (eqb c (class_of n)) (are_classes (n + 1) cs) h in
    let same : c ≡ class_of n = grind (arith, nat_tests) in
    let here : n ≡ m = omega arith in
    same ∙ ap class_of here
class-at n (c ∷ cs) (suc i) m h l e =
    let (a, b) = and_parts (eqb c (class_of n)) (are_classes (n + 1) cs) h in
    class-at (n + 1) cs i m b (omega arith) (omega arith)

pub returns : goal.returns
returns c =
    ap (λ i. get_or c.args.classes.now i 0) c.from.ensures
    ∙ class-at 0 c.args.classes.now c.args.byte c.args.byte c.requires.classes c.requires.inside (omega arith)
