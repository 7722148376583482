-- The words of a line that was read by places.
use Rattle.std.proofs.Common.{◌≡◌, ◌<◌, ◌^◌, ◌∷◌, ◌++◌, ◌∙◌, ℕ, List, [], length, decimal, Some, true}
use Rattle.std.proofs.Common.{false}
use Rattle.std.proofs.Common.{refl, ap, subst, arith}
use Rattle.std.specs.Char.{is_ascii_alphanumeric}
use Rattle.std.proofs.lemmas.List.{length-take-le}
use Rattle.std.proofs.Math.ListN.{drop_of_length-le}
use Rattle.alpha_token.specs.Tokens.{Next, tokens}
use Rattle.alpha_token.specs.declared.token.TokenKind.TheVariants as kinds
use Rattle.alpha_text.specs.SuffixWords.{BeginsWithout}
use Rattle.alpha_operands.specs.Names.{register_of}
use Rattle.alpha_text.proofs.Registers.{register_of-number}
use Rattle.alpha_text.proofs.CanonicalTokens.{token-reg, token-num, token-open, token-close, tokens-comma_first}
use Rattle.alpha_text.proofs.CanonicalTokens.{token-letters, tokens-none}
use Rattle.alpha_text.proofs.CanonicalTokens.{number_value-decimal}
use Rattle.alpha_quick.specs.declared.terminated_line.TerminatedLine.{TerminatedLine}
use Rattle.alpha_quick.specs.TerminatedLine.{IsTerminated, rest_from, line_text}
use Rattle.alpha_quick.specs.Words.{HasComma, HasRegister, HasNumber, HasEnd, HasLast, HasLastBase}

-- nothing is left at the end
pub rest_from-end : (s : TerminatedLine) (j : ℕ) → IsTerminated s → j ≡ s.end → rest_from s j ≡ []
rest_from-end s j (inside, low) e =
    let size : length (line_text s) ≡ s.end = length-take-le s.end s.bytes.now (omega arith) in
    drop_of_length-le (line_text s) (omega (arith, size, e))

pub HasEnd-empty : HasEnd []
HasEnd-empty = (0, tokens-none)

pub HasRegister-mark : (line rest : List ℕ) (r b : ℕ) → r < 32 → is_ascii_alphanumeric b ≡ false
    → line ≡ 36 ∷ (decimal r ++ (b ∷ rest)) → HasRegister line r (b ∷ rest)
HasRegister-mark line rest r b small apart e =
    (36 ∷ decimal r, register_of-number r small, ap tokens e ∙ token-reg r (b ∷ rest) (omega arith) apart)

pub HasLast-end : (line rest : List ℕ) (r : ℕ) → r < 32 → rest ≡ [] → line ≡ 36 ∷ (decimal r ++ rest) → HasLast line r
HasLast-end line rest r small none e = (
  [],
  (
    36 ∷ decimal r,
    register_of-number r small,
    ap tokens (e ∙ ap (λ t. 36 ∷ (decimal r ++ t)) none) ∙ token-reg r [] (omega arith) tt,
  ),
  HasEnd-empty,
)

pub HasNumber-mark : (line rest : List ℕ) (n b : ℕ) → n < 2 ^ 64 → is_ascii_alphanumeric b ≡ false
    → line ≡ decimal n ++ (b ∷ rest) → HasNumber line n (b ∷ rest)
HasNumber-mark line rest n b small apart e =
    (decimal n, number_value-decimal n small, ap tokens e ∙ token-num n (b ∷ rest) small apart)

pub HasNumber-end : (line rest : List ℕ) (n : ℕ) → n < 2 ^ 64 → rest ≡ [] → line ≡ decimal n ++ rest
    → HasNumber line n []
HasNumber-end line rest n small none e =
    (decimal n, number_value-decimal n small, ap tokens (e ∙ ap (λ t. decimal n ++ t) none) ∙ token-num n [] small tt)

pub HasLast-HasEnd : (line rest : List ℕ) (r : ℕ) → r < 32 → BeginsWithout is_ascii_alphanumeric rest → HasEnd rest
    → line ≡ 36 ∷ (decimal r ++ rest) → HasLast line r
HasLast-HasEnd line rest r small stop end e =
    (rest, (36 ∷ decimal r, register_of-number r small, ap tokens e ∙ token-reg r rest (omega arith) stop), end)

pub HasLastBase-HasEnd : (inner rest : List ℕ) (r : ℕ) → HasRegister inner r (41 ∷ rest) → HasEnd rest
    → HasLastBase (40 ∷ inner) r
HasLastBase-HasEnd inner rest r reg end =
    (rest, (inner, 41 ∷ rest, (40 ∷ [], token-open inner), reg, (41 ∷ [], token-close rest)), end)

-- a tab says nothing
pub tokens-tab : (s : List ℕ) → tokens (9 ∷ s) ≡ tokens s
unfolding tokens
tokens-tab s = refl

pub HasComma-comma : (after rest : List ℕ) → tokens after ≡ tokens rest → HasComma (44 ∷ after) rest
HasComma-comma after rest e = (
  44 ∷ [],
  after,
  subst (λ t. tokens (44 ∷ after) ≡ Next (record { kind = kinds.Comma; text = 44 ∷ []; rest = after }) t) e
      (tokens-comma_first after),
)

-- a register by a name of two letters
pub HasRegister-letters : (line rest : List ℕ) (a b r : ℕ) → is_ascii_alphanumeric a ≡ true
    → is_ascii_alphanumeric b ≡ true
    → BeginsWithout is_ascii_alphanumeric rest → register_of (36 ∷ a ∷ b ∷ []) ≡ Some r → line ≡ 36 ∷ a ∷ b ∷ rest
    → HasRegister line r rest
HasRegister-letters line rest a b r first second apart is e =
    (36 ∷ a ∷ b ∷ [], is, ap tokens e ∙ token-letters a b rest first second apart)
