-- The tokens of a line stand in its order.
use Rattle.std.proofs.Common.{◌≡◌, ℕ, List, [], ◌∷◌, ◌≤◌, ◌<◌, eqb, Option, None, Some, drop, length, length-drop}
use Rattle.std.proofs.Common.{length-take, arith}
use Prim.Native.Nat.{zero, suc}
use Rattle.alpha_token.specs.declared.token.TokenKind.{TokenKind}
use Rattle.alpha_token.specs.Bytes.{is_blank}
use Rattle.alpha_token.specs.Tokens.{Tokens, End, Bad, Next, left_of, token_at, put_before, tokens_after, tokens}
use Rattle.alpha_token.proofs.ConditionalChoices.{cond-either}

-- the tokens stand in the order of the line, with at most n bytes left at the first
abbrev pub AreInOrder : ℕ → Tokens → Type 0
AreInOrder n (End left) = left ≤ n
AreInOrder n (Bad left) = left ≤ n
AreInOrder n (Next t ts) = (left_of t ≤ n) × (0 < length t.text) × AreInOrder (length t.rest) ts

AreInOrder-weaker : (m n : ℕ) (ts : Tokens) → m ≤ n → AreInOrder m ts → AreInOrder n ts
AreInOrder-weaker m n (End left) h f = omega arith
AreInOrder-weaker m n (Bad left) h f = omega arith
AreInOrder-weaker m n (Next t ts) h (a, b, c) = (omega arith, b, c)

put-rest-falls : (b : ℕ) (s : List ℕ) (found : Option (TokenKind × ℕ))
    → ((k : ℕ) → AreInOrder (length (drop k s)) (tokens_after k s))
    → AreInOrder (length (b ∷ s)) (put_before (b ∷ s) found (λ more. tokens_after more s) b s)
put-rest-falls b s None behind = omega arith
put-rest-falls b s (Some v) behind = (omega (arith, length-take v.1 s, length-drop v.1 s), omega arith, behind v.1)

rest-falls : (skip : ℕ) (s : List ℕ) → AreInOrder (length (drop skip s)) (tokens_after skip s)
rest-falls skip [] = omega arith
rest-falls (suc skip) (b ∷ s) = rest-falls skip s
rest-falls zero (b ∷ s) =
    cond-either (AreInOrder (length (b ∷ s))) (is_blank b) _ _
    (λ e. AreInOrder-weaker (length s) (length (b ∷ s)) (tokens_after 0 s) (omega arith) (rest-falls 0 s)) (λ e.
    cond-either (AreInOrder (length (b ∷ s))) (eqb b 35) _ _ (λ e. omega arith)
    (λ e. put-rest-falls b s (token_at b s) (λ k. rest-falls k s)))

pub tokens-fall : (line : List ℕ) → AreInOrder (length line) (tokens line)
unfolding tokens
tokens-fall line = rest-falls 0 line

-- how many bytes stand behind the last token, n where there is none: nowhere where a byte begins no token
abbrev pub LeftBehind : ℕ → Tokens → ℕ → Type 0
LeftBehind n (End left) k = n ≡ k
LeftBehind n (Bad left) k = ⊥
LeftBehind n (Next t ts) k = LeftBehind (length t.rest) ts k

pub left-rest-falls : (n : ℕ) (ts : Tokens) (k : ℕ) → AreInOrder n ts → LeftBehind n ts k → k ≤ n
left-rest-falls n (End left) k f h = omega arith
left-rest-falls n (Bad left) k f h = absurd h
left-rest-falls n (Next t ts) k (a, b, c) h =
    let l : k ≤ length t.rest = left-rest-falls (length t.rest) ts k c h in
    omega arith
