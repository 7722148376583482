-- The stages of a module that is read.
use Rattle.std.proofs.Common.{◌≡◌, ℕ, suc, ◌-◌, ◌==◌, true, false, List, [], ◌∷◌, length, refl, ap, ◌∙◌, eqb-true}
use Rattle.std.proofs.Common.{arith}
use Rattle.std.specs.Prelude.{Ok, Err}
use Rattle.alpha_link.specs.declared.fault.ModuleFault.TheVariants.{Rest}
use Rattle.alpha_link.specs.declared.header.Sizes.{Sizes}
use Rattle.alpha_link.specs.declared.relocation.Relocation.{Relocation}
use Rattle.alpha_link.specs.Reading.{Read, and_then, taken, items_at}
use Rattle.alpha_link.specs.Header.{header_at}
use Rattle.alpha_link.specs.Symbols.{Named, symbol_at}
use Rattle.alpha_link.specs.Relocations.{relocation_at, body}
use Rattle.alpha_link.specs.Parts.{ModuleParts}
use Rattle.alpha_link.specs.Spelled.{words_at, ended, parts, relocated_at, named_at, filled_at, coded_at, module_at}

pub module_at-header_at : (bytes : List ℕ) (r : Read Sizes) → header_at bytes ≡ r
    → module_at bytes ≡ and_then r (λ z. coded_at (length bytes) z.0 z.1)
unfolding module_at
module_at-header_at bytes r e = ap (λ (o : Read Sizes). and_then o (λ z. coded_at (length bytes) z.0 z.1)) e

pub coded_at-words_at : (total : ℕ) (z : Sizes) (rest : List ℕ) (r : Read (List ℕ)) → words_at total z.words rest ≡ r
    → coded_at total z rest ≡ and_then r (λ words. filled_at total z words.0 words.1)
coded_at-words_at total z rest r e =
    ap (λ (o : Read (List ℕ)). and_then o (λ words. filled_at total z words.0 words.1)) e

pub filled_at-taken : (total : ℕ) (z : Sizes) (words rest : List ℕ) (r : Read (List ℕ)) → taken total z.filled rest ≡ r
    → filled_at total z words rest ≡ and_then r (λ bytes. named_at total z words bytes.0 bytes.1)
filled_at-taken total z words rest r e =
    ap (λ (o : Read (List ℕ)). and_then o (λ bytes. named_at total z words bytes.0 bytes.1)) e

pub named_at-items_at : (total : ℕ) (z : Sizes) (words bytes rest : List ℕ) (r : Read (List Named))
    → items_at (symbol_at total z) z.symbols [] rest ≡ r
    → named_at total z words bytes rest ≡ and_then r (λ symbols. relocated_at total z words bytes symbols.0 symbols.1)
named_at-items_at total z words bytes rest r e =
    ap (λ (o : Read (List Named)). and_then o (λ symbols. relocated_at total z words bytes symbols.0 symbols.1)) e

pub relocated_at-items_at : (total : ℕ) (z : Sizes) (words bytes : List ℕ)
    (symbols : List Named) (rest : List ℕ) (r : Read (List Relocation))
    → items_at (relocation_at total z (body words bytes)) z.relocations [] rest ≡ r
    → relocated_at total z words bytes symbols rest
    ≡ and_then r (λ relocations. ended total (parts z words bytes symbols relocations.0) relocations.1)
relocated_at-items_at total z words bytes symbols rest r e =
    ap (λ (o : Read (List Relocation)).
    and_then o (λ relocations. ended total (parts z words bytes symbols relocations.0) relocations.1))
    e

pub ended_none : (total : ℕ) (m : ModuleParts) (rest : List ℕ) → (length rest == 0) ≡ true → ended total m rest ≡ Ok m
ended_none total m [] e = refl
ended_none total m (b ∷ rest) e = absurd (some_left (length rest) e)
  where
    some_left : (n : ℕ) → (suc n == 0) ≡ true → ⊥
    some_left n e = let h : suc n ≡ 0 = eqb-true _ _ e in absurd (omega arith)

pub ended_some : (total : ℕ) (m : ModuleParts) (rest : List ℕ) → (length rest == 0) ≡ false
    → ended total m rest ≡ Err (Rest (total - length rest))
ended_some total m [] e = absurd (none_left e)
  where
    none_left : (0 == 0) ≡ false → ⊥
    none_left e = absurd cc
ended_some total m (b ∷ rest) e = refl

abbrev pub HasModuleHeader : List ℕ → Sizes → List ℕ → Type 0
HasModuleHeader bytes z rest = header_at bytes ≡ Ok (z, rest)

pub module_at-coded_at : (bytes : List ℕ) (z : Sizes) (b : List ℕ) → HasModuleHeader bytes z b
    → module_at bytes ≡ coded_at (length bytes) z b
module_at-coded_at bytes z b e = module_at-header_at bytes (Ok (z, b)) e

pub module_at-filled_at : (bytes : List ℕ) (z : Sizes) (b words b2 : List ℕ) → HasModuleHeader bytes z b
    → words_at (length bytes) z.words b ≡ Ok (words, b2) → module_at bytes ≡ filled_at (length bytes) z words b2
module_at-filled_at bytes z b words b2 e f =
    module_at-coded_at bytes z b e ∙ coded_at-words_at (length bytes) z b (Ok (words, b2)) f

pub module_at-named_at : (bytes : List ℕ) (z : Sizes) (b words b2 stored b3 : List ℕ) → HasModuleHeader bytes z b
    → words_at (length bytes) z.words b ≡ Ok (words, b2) → taken (length bytes) z.filled b2 ≡ Ok (stored, b3)
    → module_at bytes ≡ named_at (length bytes) z words stored b3
module_at-named_at bytes z b words b2 stored b3 e f g =
    module_at-filled_at bytes z b words b2 e f ∙ filled_at-taken (length bytes) z words b2 (Ok (stored, b3)) g

pub module_at-relocated_at : (bytes : List ℕ) (z : Sizes) (b words b2 stored b3 : List ℕ) (symbols : List Named)
    (b4 : List ℕ)
    → HasModuleHeader bytes z b → words_at (length bytes) z.words b ≡ Ok (words, b2)
    → taken (length bytes) z.filled b2 ≡ Ok (stored, b3)
    → items_at (symbol_at (length bytes) z) z.symbols [] b3 ≡ Ok (symbols, b4)
    → module_at bytes ≡ relocated_at (length bytes) z words stored symbols b4
module_at-relocated_at bytes z b words b2 stored b3 symbols b4 e f g h =
    module_at-named_at bytes z b words b2 stored b3 e f g
    ∙ named_at-items_at (length bytes) z words stored b3 (Ok (symbols, b4)) h

pub module_at-ended : (bytes : List ℕ) (z : Sizes) (b words b2 stored b3 : List ℕ)
    (symbols : List Named) (b4 : List ℕ) (relocations : List Relocation) (b5 : List ℕ)
    → HasModuleHeader bytes z b → words_at (length bytes) z.words b ≡ Ok (words, b2)
    → taken (length bytes) z.filled b2 ≡ Ok (stored, b3)
    → items_at (symbol_at (length bytes) z) z.symbols [] b3 ≡ Ok (symbols, b4)
    → items_at (relocation_at (length bytes) z (body words stored)) z.relocations [] b4 ≡ Ok (relocations, b5)
    → module_at bytes ≡ ended (length bytes) (parts z words stored symbols relocations) b5
module_at-ended bytes z b words b2 stored b3 symbols b4 relocations b5 e f g h i =
    module_at-relocated_at bytes z b words b2 stored b3 symbols b4 e f g h
    ∙ relocated_at-items_at (length bytes) z words stored symbols b4 (Ok (relocations, b5)) i
