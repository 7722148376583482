-- Laws of a shelf's files over calls in a row.
use Rattle.std.proofs.Common.{◌≡◌, ℕ, List, Option, None, Some, IsSomeAnd, refl, sym, ◌∙◌, subst}
use Rattle.alpha_io.specs.Files.{Files, IfTold, Lacks, KeepsFiles, KeepsOtherFiles}

pub KeepsFiles-refl : (a : Files) → KeepsFiles a a
KeepsFiles-refl None = tt
KeepsFiles-refl (Some f) = λ name. refl

pub KeepsFiles-trans : (a b c : Files) → KeepsFiles a b → KeepsFiles b c → KeepsFiles a c
KeepsFiles-trans None None None p q = tt
KeepsFiles-trans None None (Some h) p q = q
KeepsFiles-trans None (Some g) c p q = absurd p
KeepsFiles-trans (Some f) None c p q = absurd p
KeepsFiles-trans (Some f) (Some g) None p q = q
KeepsFiles-trans (Some f) (Some g) (Some h) p q = λ name. q name ∙ p name

pub KeepsFiles-sym : (a b : Files) → KeepsFiles a b → KeepsFiles b a
KeepsFiles-sym None None p = tt
KeepsFiles-sym None (Some g) p = p
KeepsFiles-sym (Some f) None p = p
KeepsFiles-sym (Some f) (Some g) p = λ name. sym (p name)

pub KeepsOtherFiles-kept : (a b : Files) (name : List ℕ) → KeepsFiles a b → KeepsOtherFiles a b name
KeepsOtherFiles-kept None None name p = tt
KeepsOtherFiles-kept None (Some g) name p = p
KeepsOtherFiles-kept (Some f) None name p = p
KeepsOtherFiles-kept (Some f) (Some g) name p = λ other differs. p other

-- what is told after calls that keep all files was so before them
pub IfTold-kept : (a b : Files) (name : List ℕ) (P : List ℕ → Type 0) → KeepsFiles a b → IfTold b name P
    → IfTold a name P
IfTold-kept None b name P p h = tt
IfTold-kept (Some f) None name P p h = absurd p
IfTold-kept (Some f) (Some g) name P p h = subst (λ o. IsSomeAnd o P) (p name) h

pub Lacks-kept : (a b : Files) (name : List ℕ) → KeepsFiles a b → Lacks b name → Lacks a name
Lacks-kept None None name p h = h
Lacks-kept None (Some g) name p h = absurd p
Lacks-kept (Some f) None name p h = absurd p
Lacks-kept (Some f) (Some g) name p h = sym (p name) ∙ h

IsSomeAnd-not_None : (o : Option (List ℕ)) (P : List ℕ → Type 0) → o ≡ None → IsSomeAnd o P → ⊥
IsSomeAnd-not_None None P none h = h
IsSomeAnd-not_None (Some file) P none h = cc

-- a name that isn't there has no file
pub Lacks-not_told : (a : Files) (name : List ℕ) (P : List ℕ → Type 0) → Lacks a name → IfTold a name P → ⊥
Lacks-not_told None name P lacks h = lacks
Lacks-not_told (Some g) name P lacks h = IsSomeAnd-not_None (g name) P lacks h

pub KeepsOtherFiles-after_kept : (a b c : Files) (name : List ℕ) → KeepsFiles a b → KeepsOtherFiles b c name
    → KeepsOtherFiles a c name
KeepsOtherFiles-after_kept None None None name p q = tt
KeepsOtherFiles-after_kept None None (Some h) name p q = q
KeepsOtherFiles-after_kept None (Some g) c name p q = absurd p
KeepsOtherFiles-after_kept (Some f) None c name p q = absurd p
KeepsOtherFiles-after_kept (Some f) (Some g) None name p q = q
KeepsOtherFiles-after_kept (Some f) (Some g) (Some h) name p q = λ other differs. q other differs ∙ p other

-- ---- where files are told
