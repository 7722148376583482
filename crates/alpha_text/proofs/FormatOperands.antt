-- The words of each format's canonical line give its operands.
use Rattle.std.proofs.Common.{add-one, ◌≡◌, ℕ, pos, negsuc, neg_ℤ, ◌-ℤ◌, List, [], ◌∷◌, ◌+◌, ◌*◌, ◌/◌, ◌%◌, ◌<◌, ◌≤◌}
use Rattle.std.proofs.Common.{◌^◌, true, eqb, nat_le, Some, Ok, decimal, refl, ◌∙◌, ap, arith}
use Prim.Native.Nat.{suc}
use Rattle.std.proofs.lemmas.Int.{ints}
use Rattle.std.proofs.lemmas.Bool.Decides.{nat_tests}
use Rattle.alpha_token.specs.Numeral.{number_value}
use Rattle.alpha_token.specs.Tokens.{tokens}
use Rattle.alpha_operands.specs.declared.piece.Piece.{Piece}
use Rattle.alpha_operands.specs.declared.piece.Piece.TheVariants as pieces
use Rattle.alpha_operands.specs.declared.number.Sign.{Sign}
use Rattle.alpha_operands.specs.declared.number.Sign.TheVariants as signs
use Rattle.alpha_operands.specs.declared.number.Number.{Number}
use Rattle.alpha_operands.specs.declared.number.Number.TheVariants as numbers
use Rattle.alpha_operands.specs.declared.shape.Shape.{Shape}
use Rattle.alpha_operands.specs.declared.shape.Shape.TheVariants as shapes
use Rattle.alpha_operands.specs.Ranges.{number_of, words_of as words_over}
use Rattle.alpha_operands.specs.Shapes.{patterns}
use Rattle.alpha_operands.specs.Operands.{Slots, nothing, filled}
use Rattle.alpha_operands.specs.Walk.{operands}
use Rattle.alpha_text.specs.Canon.{Word, reg, num, mark, behind_name}
use Rattle.alpha_text.proofs.Registers.{register_of-number}
use Rattle.alpha_text.proofs.CanonicalTokens.{behind-tokens, tokens-comma_first, token-open, token-close, token-minus}
use Rattle.alpha_text.proofs.CanonicalTokens.{token-plus, token-dot, tokens-none, number_value-decimal}

-- the value of a number's text at a piece
at_piece : (p : Piece) (sign : Sign) (n : ℕ) (v : Number) → n < 2 ^ 64 → number_of p sign n ≡ Some v
    → number_of p sign (number_value (decimal n)) ≡ Some v
at_piece p sign n v l h = ap (number_of p sign) (number_value-decimal n l) ∙ h

displacement_is : (n : ℕ) → n < 32768 → number_of pieces.Displacement signs.Plus n ≡ Some (numbers.Displacement (pos n))
unfolding number_of
displacement_is n h = let e : nat_le n 32767 ≡ true = grind (arith, nat_tests) in rw e refl

below_0_is : (n : ℕ) → n < 32768
    → number_of pieces.Displacement signs.Minus (n + 1) ≡ Some (numbers.Displacement (negsuc n))
unfolding number_of
below_0_is n h = let e : nat_le (n + 1) 32768 ≡ true = grind (arith, nat_tests) in rw (e, add-one) refl

literal_is : (n : ℕ) → n < 256 → number_of pieces.Literal signs.Plus n ≡ Some (numbers.Literal n)
unfolding number_of
literal_is n h = let e : nat_le n 255 ≡ true = grind (arith, nat_tests) in rw e refl

hint_is : (n : ℕ) → n < 2 ^ 14 → number_of pieces.Hint signs.Plus n ≡ Some (numbers.Hint n)
unfolding number_of
hint_is n h = let e : nat_le n 16383 ≡ true = grind (arith, nat_tests) in rw e refl

nothing_is : number_of pieces.Nothing signs.Plus 0 ≡ Some numbers.Nothing
unfolding number_of
nothing_is = refl

to_itself : number_of pieces.Distance signs.Plus 0 ≡ Some (numbers.Words (negsuc 0))
unfolding number_of
to_itself = refl

words_forward : (n : ℕ) → words_over signs.Plus (4 * n + 4) ≡ pos n
words_forward n =
    let e : (4 * n + 4) / 4 ≡ n + 1 = omega arith in
    rw e (let k : pos (n + 1) -ℤ pos 1 ≡ pos n = omega (arith, ints) in k)

words_back : (n : ℕ) → words_over signs.Minus (4 * n + 4) ≡ negsuc (suc n)
words_back n =
    let e : (4 * n + 4) / 4 ≡ n + 1 = omega arith in
    rw e (let k : neg_ℤ (pos (n + 1)) -ℤ pos 1 ≡ negsuc (suc n) = omega (arith, ints) in k)

forward_is : (n : ℕ) → n < 2 ^ 20 → number_of pieces.Distance signs.Plus (4 * n + 4) ≡ Some (numbers.Words (pos n))
unfolding number_of
forward_is n h =
    let a : eqb ((4 * n + 4) % 4) 0 ≡ true = (let m : (4 * n + 4) % 4 ≡ 0 = omega arith in grind (arith, nat_tests)) in
    let b : nat_le (4 * n + 4) 4194304 ≡ true =
    (let l : 4 * n + 4 ≤ 4194304 = omega arith in grind (arith, nat_tests)) in
    rw (a, b) (ap (λ w. Some (numbers.Words w)) (words_forward n))

back_is : (n : ℕ) → suc n < 2 ^ 20
    → number_of pieces.Distance signs.Minus (4 * n + 4) ≡ Some (numbers.Words (negsuc (suc n)))
unfolding number_of
back_is n h =
    let a : eqb ((4 * n + 4) % 4) 0 ≡ true = (let m : (4 * n + 4) % 4 ≡ 0 = omega arith in grind (arith, nat_tests)) in
    let b : nat_le (4 * n + 4) 4194300 ≡ true =
    (let l : 4 * n + 4 ≤ 4194300 = omega arith in grind (arith, nat_tests)) in
    rw (a, b) (ap (λ w. Some (numbers.Words w)) (words_back n))

-- the words behind a name give these operands by the patterns of a shape
abbrev pub GivesOperands : Shape → List Word → Slots → Type 0
GivesOperands shape ws o = operands (patterns shape) (tokens (behind_name ws)) ≡ Ok o

pub memory_forward : (ra rb n : ℕ) → ra < 32 → rb < 32 → n < 32768
    → GivesOperands shapes.Memory (reg ra ∷ mark 44 ∷ num n ∷ mark 40 ∷ reg rb ∷ mark 41 ∷ [])
    (record nothing { ra = Some ra; number = Some (numbers.Displacement (pos n)); rb = Some rb; left = 0 })
unfolding operands patterns filled
memory_forward ra rb n a b c =
    rw (
      behind-tokens (reg ra ∷ mark 44 ∷ num n ∷ mark 40 ∷ reg rb ∷ mark 41 ∷ [])
          (a, refl, (tokens-comma_first _, (omega arith, refl, (token-open _, (b, refl, (token-close _, tt)))))),
      register_of-number ra a,
      at_piece pieces.Displacement signs.Plus n (numbers.Displacement (pos n)) (omega arith) (displacement_is n c),
      register_of-number rb b,
    ) refl

pub memory_back : (ra rb n : ℕ) → ra < 32 → rb < 32 → n < 32768
    → GivesOperands shapes.Memory (reg ra ∷ mark 44 ∷ mark 45 ∷ num (n + 1) ∷ mark 40 ∷ reg rb ∷ mark 41 ∷ [])
    (record nothing { ra = Some ra; number = Some (numbers.Displacement (negsuc n)); rb = Some rb; left = 0 })
unfolding operands patterns filled
memory_back ra rb n a b c =
    rw (
      behind-tokens (reg ra ∷ mark 44 ∷ mark 45 ∷ num (n + 1) ∷ mark 40 ∷ reg rb ∷ mark 41 ∷ []) (
        a,
        refl,
        (tokens-comma_first _, (token-minus _, (omega arith, refl, (token-open _, (b, refl, (token-close _, tt)))))),
      ),
      register_of-number ra a,
      at_piece pieces.Displacement signs.Minus (n + 1) (numbers.Displacement (negsuc n)) (omega arith) (below_0_is n c),
      register_of-number rb b,
    ) refl

pub branch_forward : (ra n : ℕ) → ra < 32 → n < 2 ^ 20
    → GivesOperands shapes.Branch (reg ra ∷ mark 44 ∷ mark 46 ∷ mark 43 ∷ num (4 * n + 4) ∷ [])
    (record nothing { ra = Some ra; number = Some (numbers.Words (pos n)); left = 0 })
unfolding operands patterns filled
branch_forward ra n a c =
    rw (
      behind-tokens (reg ra ∷ mark 44 ∷ mark 46 ∷ mark 43 ∷ num (4 * n + 4) ∷ [])
          (a, refl, (tokens-comma_first _, (token-dot 43 _ refl, (token-plus _, (omega arith, tt, tt))))),
      register_of-number ra a,
      at_piece pieces.Distance signs.Plus (4 * n + 4) (numbers.Words (pos n)) (omega arith) (forward_is n c),
    ) refl

pub branch_itself : (ra : ℕ) → ra < 32
    → GivesOperands shapes.Branch (reg ra ∷ mark 44 ∷ mark 46 ∷ mark 43 ∷ num 0 ∷ [])
    (record nothing { ra = Some ra; number = Some (numbers.Words (negsuc 0)); left = 0 })
unfolding operands patterns filled
branch_itself ra a =
    rw (
      behind-tokens (reg ra ∷ mark 44 ∷ mark 46 ∷ mark 43 ∷ num 0 ∷ [])
          (a, refl, (tokens-comma_first _, (token-dot 43 _ refl, (token-plus _, (omega arith, tt, tt))))),
      register_of-number ra a,
      at_piece pieces.Distance signs.Plus 0 (numbers.Words (negsuc 0)) (omega arith) to_itself,
    ) refl

pub branch_back : (ra n : ℕ) → ra < 32 → suc n < 2 ^ 20
    → GivesOperands shapes.Branch (reg ra ∷ mark 44 ∷ mark 46 ∷ mark 45 ∷ num (4 * n + 4) ∷ [])
    (record nothing { ra = Some ra; number = Some (numbers.Words (negsuc (suc n))); left = 0 })
unfolding operands patterns filled
branch_back ra n a c =
    rw (
      behind-tokens (reg ra ∷ mark 44 ∷ mark 46 ∷ mark 45 ∷ num (4 * n + 4) ∷ [])
          (a, refl, (tokens-comma_first _, (token-dot 45 _ refl, (token-minus _, (omega arith, tt, tt))))),
      register_of-number ra a,
      at_piece pieces.Distance signs.Minus (4 * n + 4) (numbers.Words (negsuc (suc n))) (omega arith) (back_is n c),
    ) refl

pub call_forward : (ra n : ℕ) → ra < 32 → n < 2 ^ 20
    → GivesOperands shapes.Call (reg ra ∷ mark 44 ∷ mark 46 ∷ mark 43 ∷ num (4 * n + 4) ∷ [])
    (record nothing { ra = Some ra; number = Some (numbers.Words (pos n)); left = 0 })
unfolding operands patterns filled
call_forward ra n a c =
    rw (
      behind-tokens (reg ra ∷ mark 44 ∷ mark 46 ∷ mark 43 ∷ num (4 * n + 4) ∷ [])
          (a, refl, (tokens-comma_first _, (token-dot 43 _ refl, (token-plus _, (omega arith, tt, tt))))),
      register_of-number ra a,
      at_piece pieces.Distance signs.Plus (4 * n + 4) (numbers.Words (pos n)) (omega arith) (forward_is n c),
    ) refl

pub call_itself : (ra : ℕ) → ra < 32
    → GivesOperands shapes.Call (reg ra ∷ mark 44 ∷ mark 46 ∷ mark 43 ∷ num 0 ∷ [])
    (record nothing { ra = Some ra; number = Some (numbers.Words (negsuc 0)); left = 0 })
unfolding operands patterns filled
call_itself ra a =
    rw (
      behind-tokens (reg ra ∷ mark 44 ∷ mark 46 ∷ mark 43 ∷ num 0 ∷ [])
          (a, refl, (tokens-comma_first _, (token-dot 43 _ refl, (token-plus _, (omega arith, tt, tt))))),
      register_of-number ra a,
      at_piece pieces.Distance signs.Plus 0 (numbers.Words (negsuc 0)) (omega arith) to_itself,
    ) refl

pub call_back : (ra n : ℕ) → ra < 32 → suc n < 2 ^ 20
    → GivesOperands shapes.Call (reg ra ∷ mark 44 ∷ mark 46 ∷ mark 45 ∷ num (4 * n + 4) ∷ [])
    (record nothing { ra = Some ra; number = Some (numbers.Words (negsuc (suc n))); left = 0 })
unfolding operands patterns filled
call_back ra n a c =
    rw (
      behind-tokens (reg ra ∷ mark 44 ∷ mark 46 ∷ mark 45 ∷ num (4 * n + 4) ∷ [])
          (a, refl, (tokens-comma_first _, (token-dot 45 _ refl, (token-minus _, (omega arith, tt, tt))))),
      register_of-number ra a,
      at_piece pieces.Distance signs.Minus (4 * n + 4) (numbers.Words (negsuc (suc n))) (omega arith) (back_is n c),
    ) refl

pub jump_words : (ra rb n : ℕ) → ra < 32 → rb < 32 → n < 2 ^ 14
    → GivesOperands shapes.Jump (reg ra ∷ mark 44 ∷ mark 40 ∷ reg rb ∷ mark 41 ∷ mark 44 ∷ num n ∷ [])
    (record nothing { ra = Some ra; rb = Some rb; number = Some (numbers.Hint n); left = 0 })
unfolding operands patterns filled
jump_words ra rb n a b c =
    rw (
      behind-tokens (reg ra ∷ mark 44 ∷ mark 40 ∷ reg rb ∷ mark 41 ∷ mark 44 ∷ num n ∷ []) (
        a,
        refl,
        (
          tokens-comma_first _,
          (token-open _, (b, refl, (token-close _, (tokens-comma_first _, (omega arith, tt, tt))))),
        ),
      ),
      register_of-number ra a,
      register_of-number rb b,
      at_piece pieces.Hint signs.Plus n (numbers.Hint n) (omega arith) (hint_is n c),
    ) refl

pub return_words : (ra rb n : ℕ) → ra < 32 → rb < 32 → n < 2 ^ 14
    → GivesOperands shapes.Return (reg ra ∷ mark 44 ∷ mark 40 ∷ reg rb ∷ mark 41 ∷ mark 44 ∷ num n ∷ [])
    (record nothing { ra = Some ra; rb = Some rb; number = Some (numbers.Hint n); left = 0 })
unfolding operands patterns filled
return_words ra rb n a b c =
    rw (
      behind-tokens (reg ra ∷ mark 44 ∷ mark 40 ∷ reg rb ∷ mark 41 ∷ mark 44 ∷ num n ∷ []) (
        a,
        refl,
        (
          tokens-comma_first _,
          (token-open _, (b, refl, (token-close _, (tokens-comma_first _, (omega arith, tt, tt))))),
        ),
      ),
      register_of-number ra a,
      register_of-number rb b,
      at_piece pieces.Hint signs.Plus n (numbers.Hint n) (omega arith) (hint_is n c),
    ) refl

pub operate_register : (ra rb rc : ℕ) → ra < 32 → rb < 32 → rc < 32
    → GivesOperands shapes.Operate (reg ra ∷ mark 44 ∷ reg rb ∷ mark 44 ∷ reg rc ∷ [])
    (record nothing { ra = Some ra; rb = Some rb; rc = Some rc; left = 0 })
unfolding operands patterns filled
operate_register ra rb rc a b c =
    rw (
      behind-tokens (reg ra ∷ mark 44 ∷ reg rb ∷ mark 44 ∷ reg rc ∷ [])
          (a, refl, (tokens-comma_first _, (b, refl, (tokens-comma_first _, (c, tt, tt))))),
      register_of-number ra a,
      register_of-number rb b,
      register_of-number rc c,
    ) refl

pub operate_literal : (ra n rc : ℕ) → ra < 32 → n < 256 → rc < 32
    → GivesOperands shapes.Operate (reg ra ∷ mark 44 ∷ num n ∷ mark 44 ∷ reg rc ∷ [])
    (record nothing { ra = Some ra; number = Some (numbers.Literal n); rc = Some rc; left = 0 })
unfolding operands patterns filled
operate_literal ra n rc a b c =
    rw (
      behind-tokens (reg ra ∷ mark 44 ∷ num n ∷ mark 44 ∷ reg rc ∷ [])
          (a, refl, (tokens-comma_first _, (omega arith, refl, (tokens-comma_first _, (c, tt, tt))))),
      register_of-number ra a,
      at_piece pieces.Literal signs.Plus n (numbers.Literal n) (omega arith) (literal_is n b),
      register_of-number rc c,
    ) refl

pub unary_register : (rb rc : ℕ) → rb < 32 → rc < 32
    → GivesOperands shapes.Unary (reg rb ∷ mark 44 ∷ reg rc ∷ [])
    (record nothing { rb = Some rb; rc = Some rc; left = 0 })
unfolding operands patterns filled
unary_register rb rc b c =
    rw (
      behind-tokens (reg rb ∷ mark 44 ∷ reg rc ∷ []) (b, refl, (tokens-comma_first _, (c, tt, tt))),
      register_of-number rb b,
      register_of-number rc c,
    ) refl

pub unary_literal : (n rc : ℕ) → n < 256 → rc < 32
    → GivesOperands shapes.Unary (num n ∷ mark 44 ∷ reg rc ∷ [])
    (record nothing { number = Some (numbers.Literal n); rc = Some rc; left = 0 })
unfolding operands patterns filled
unary_literal n rc b c =
    rw (
      behind-tokens (num n ∷ mark 44 ∷ reg rc ∷ []) (omega arith, refl, (tokens-comma_first _, (c, tt, tt))),
      at_piece pieces.Literal signs.Plus n (numbers.Literal n) (omega arith) (literal_is n b),
      register_of-number rc c,
    ) refl

pub pair_words : (rb rc : ℕ) → rb < 32 → rc < 32
    → GivesOperands shapes.Pair (reg rb ∷ mark 44 ∷ reg rc ∷ [])
    (record nothing { rb = Some rb; rc = Some rc; left = 0 })
unfolding operands patterns filled
pair_words rb rc b c =
    rw (
      behind-tokens (reg rb ∷ mark 44 ∷ reg rc ∷ []) (b, refl, (tokens-comma_first _, (c, tt, tt))),
      register_of-number rb b,
      register_of-number rc c,
    ) refl

pub single_word : (rc : ℕ) → rc < 32
    → GivesOperands shapes.Single (reg rc ∷ []) (record nothing { rc = Some rc; left = 0 })
unfolding operands patterns filled
single_word rc c =
    rw (
      behind-tokens (reg rc ∷ []) (c, tt, tt),
      register_of-number rc c,
    ) refl

pub prefetch_words : (rb : ℕ) → rb < 32
    → GivesOperands shapes.Prefetch (num 0 ∷ mark 40 ∷ reg rb ∷ mark 41 ∷ [])
    (record nothing { number = Some numbers.Nothing; rb = Some rb; left = 0 })
unfolding operands patterns filled
prefetch_words rb b =
    rw (
      behind-tokens (num 0 ∷ mark 40 ∷ reg rb ∷ mark 41 ∷ [])
          (omega arith, refl, (token-open _, (b, refl, (token-close _, tt)))),
      at_piece pieces.Nothing signs.Plus 0 numbers.Nothing (omega arith) nothing_is,
      register_of-number rb b,
    ) refl

pub alone_words : GivesOperands shapes.Alone [] nothing
unfolding operands patterns
alone_words = rw tokens-none refl
