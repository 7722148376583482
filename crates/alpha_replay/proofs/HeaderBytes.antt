-- What stands before the input gives the numbers that it was made of, and is what its numbers make.
use Rattle.std.proofs.Common.{◌≡◌, ℕ, ◌^◌, ◌<◌, ◌≤◌, IsTrue, true, List, [], ◌∷◌, ◌++◌, length, drop, refl, sym, ap}
use Rattle.std.proofs.Common.{◌∙◌, append_assoc, arith}
use Rattle.std.specs.Prelude.{nat_eq}
use Rattle.std.specs.List.{concat, starts_with}
use Rattle.std.proofs.lemmas.Bool.Decides.{Decides-eqb}
use Rattle.std.proofs.lemmas.List.{append-nil, drop_more}
use Rattle.std.proofs.lemmas.Slice.Eq.{starts_is}
use Rattle.alpha_image.specs.Layout.{quadword, longword}
use Rattle.alpha_image.proofs.LittleEndianNumbers.{IsBytes, quadword_at-front, longword_at-front, drop-quadword}
use Rattle.alpha_image.proofs.LittleEndianNumbers.{drop-longword}
use Rattle.alpha_replay.specs.Journal.{Numbers, magic, header_bytes}
use Rattle.alpha_replay.specs.Reading.{numbers_in}

pub starts_magic : (bytes : List ℕ) → IsTrue (starts_with nat_eq bytes magic) → bytes ≡ magic ++ drop 8 bytes
starts_magic bytes t = (starts_is Decides-eqb bytes magic _ refl).0 t

pub starts_with-journal_header : (n : Numbers) (rest : List ℕ)
    → starts_with nat_eq (header_bytes n ++ rest) magic ≡ true
unfolding header_bytes
starts_with-journal_header n rest = refl

pub length-journal_header : (n : Numbers) → length (header_bytes n) ≡ 38
unfolding header_bytes quadword longword
length-journal_header n = refl

-- the numbers fit their places
pub record HeaderFits (n : Numbers) : Type 0 where
  pub first : n.first < 2 ^ 64
  pub second : n.second < 2 ^ 64
  pub input : n.input < 2 ^ 32
  pub output : n.output < 2 ^ 32
  pub items : n.items < 2 ^ 32

-- numbers with the parts of others
same_numbers : (n m : Numbers) → m.completion ≡ n.completion → m.kind ≡ n.kind → m.first ≡ n.first → m.second ≡ n.second
    → m.input ≡ n.input → m.output ≡ n.output → m.items ≡ n.items → m ≡ n
same_numbers n m a b c d e f g = rw (a, b, c, d, e, f, g) refl

-- the numbers at a front are those that it was made of
pub numbers_in-journal_header : (n : Numbers) (rest : List ℕ) → HeaderFits n → numbers_in (header_bytes n ++ rest) ≡ n
unfolding header_bytes quadword longword numbers_in
numbers_in-journal_header n rest fit =
    let t = header_bytes n ++ rest in
    same_numbers n (numbers_in t) refl refl
    (quadword_at-front t 10 n.first _ refl fit.first)
    (quadword_at-front t 18 n.second _ refl fit.second)
    (longword_at-front t 26 n.input _ refl fit.input)
    (longword_at-front t 30 n.output _ refl fit.output)
    (longword_at-front t 34 n.items _ refl fit.items)

parts_and_rest : (a b c d e f g rest : List ℕ)
    → concat (a ∷ b ∷ c ∷ d ∷ e ∷ f ∷ g ∷ []) ++ rest ≡ a ++ (b ++ (c ++ (d ++ (e ++ (f ++ (g ++ rest))))))
parts_and_rest a b c d e f g rest = simp (append_assoc, append-nil)

-- bytes that are long enough begin with the front that their numbers make
pub journal_header-numbers_in : (bytes : List ℕ) → IsBytes bytes → 38 ≤ length bytes → bytes ≡ magic ++ drop 8 bytes
    → bytes ≡ header_bytes (numbers_in bytes) ++ drop 38 bytes
unfolding header_bytes numbers_in
journal_header-numbers_in bytes fits long starts =
    let n = numbers_in bytes in
    starts
    ∙ (ap (λ (t : List ℕ). magic ++ t) (drop_more bytes 8 0 (omega arith)
    ∙ ap (λ (t : List ℕ). n.completion ∷ t) (drop_more bytes 9 0 (omega arith)
    ∙ ap (λ (t : List ℕ). n.kind ∷ t) (drop-quadword bytes 10 18 fits (omega arith) refl
    ∙ ap (λ (t : List ℕ). quadword n.first ++ t) (drop-quadword bytes 18 26 fits (omega arith) refl
    ∙ ap (λ (t : List ℕ). quadword n.second ++ t) (drop-longword bytes 26 30 fits (omega arith) refl
    ∙ ap (λ (t : List ℕ). longword n.input ++ t) (drop-longword bytes 30 34 fits (omega arith) refl
    ∙ ap (λ (t : List ℕ). longword n.output ++ t) (drop-longword bytes 34 38 fits (omega arith) refl)))))))
    ∙ sym (parts_and_rest magic (n.completion ∷ n.kind ∷ []) (quadword n.first) (quadword n.second) (longword n.input)
    (longword n.output) (longword n.items) (drop 38 bytes)))
