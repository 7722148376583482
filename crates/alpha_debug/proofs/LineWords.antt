-- The first word of a line, and the words behind it.
use Rattle.std.proofs.Common.{◌≡◌, ◌∙◌, ℕ, suc, ◌+◌, Bool, true, false, cond, not, List, [], ◌∷◌, take, drop, refl, sym}
use Rattle.std.proofs.Common.{ap, arith}
use Rattle.std.proofs.lemmas.Bool.Decides.{nat_tests}
use Rattle.std.specs.List.{filter, slice_split, onto_first, prefix_len}
use Rattle.std.proofs.lemmas.List.Splits.{slice_split-cons_yes, slice_split-cons_no}
use Rattle.alpha_token.specs.Bytes.{is_blank}
use Rattle.alpha_debug.specs.Command.{words, has_bytes}

-- how many bytes at the front are no blanks
abbrev pub word_len : List ℕ → ℕ
word_len line = prefix_len (λ b. not (is_blank b)) line

one_more : (n : ℕ) → 1 + n ≡ suc n
one_more n = omega arith

len-blank : (b : ℕ) (line : List ℕ) → is_blank b ≡ true → word_len (b ∷ line) ≡ 0
len-blank b line e = ap (λ (t : Bool). cond (not t) (1 + word_len line) 0) e

len-other : (b : ℕ) (line : List ℕ) → is_blank b ≡ false → word_len (b ∷ line) ≡ suc (word_len line)
len-other b line e = ap (λ (t : Bool). cond (not t) (1 + word_len line) 0) e ∙ one_more (word_len line)

words-blank : (b : ℕ) (line : List ℕ) → is_blank b ≡ true → words (b ∷ line) ≡ words line
words-blank b line e = ap (filter has_bytes) (slice_split-cons_yes is_blank b line e)

-- how a line is cut behind its first bytes that are no blanks
record SplitWords (line : List ℕ) : Type 0 where
  parts : List (List ℕ)
  is : slice_split is_blank line ≡ take (word_len line) line ∷ parts
  words_are : filter has_bytes parts ≡ words (drop (word_len line) line)

cut-by : (b : ℕ) (line : List ℕ) → SplitWords line → (t : Bool) → is_blank b ≡ t → SplitWords (b ∷ line)
cut-by b line more true e = record {
  parts = slice_split is_blank line;
  is =
      slice_split-cons_yes is_blank b line e
      ∙ ap (λ (n : ℕ). take n (b ∷ line) ∷ slice_split is_blank line) (sym (len-blank b line e));
  words_are = sym (words-blank b line e) ∙ ap (λ (n : ℕ). words (drop n (b ∷ line))) (sym (len-blank b line e));
}
cut-by b line more false e = record {
  parts = more.parts;
  is =
      slice_split-cons_no is_blank b line e
      ∙ (ap (onto_first b) more.is ∙ ap (λ (n : ℕ). take n (b ∷ line) ∷ more.parts) (sym (len-other b line e)));
  words_are = more.words_are ∙ ap (λ (n : ℕ). words (drop n (b ∷ line))) (sym (len-other b line e));
}

SplitWords-blank : (line : List ℕ) → SplitWords line
SplitWords-blank [] = record { parts = []; is = refl; words_are = refl }
SplitWords-blank (b ∷ line) = cut-by b line (SplitWords-blank line) (is_blank b) refl

-- a word at the front and the words behind it, or no word
abbrev word_and_rest : List ℕ → List ℕ → List (List ℕ)
word_and_rest word rest = cond (has_bytes word) (word ∷ words rest) []

-- the first word of a line without blanks at its front
abbrev words_without_blanks : List ℕ → List (List ℕ)
words_without_blanks line = word_and_rest (take (word_len line) line) (drop (word_len line) line)

cond-true : (b : Bool) (xs ys zs : List (List ℕ)) → b ≡ true → cond b xs ys ≡ cond b xs zs
cond-true true xs ys zs e = refl
cond-true false xs ys zs e = absurd cc

has-first : (b : ℕ) (more : List ℕ) → has_bytes (b ∷ more) ≡ true
has-first b more = grind (arith, nat_tests)

has-other : (b : ℕ) (line : List ℕ) → is_blank b ≡ false → has_bytes (take (word_len (b ∷ line)) (b ∷ line)) ≡ true
has-other b line e =
    ap (λ (n : ℕ). has_bytes (take n (b ∷ line))) (len-other b line e) ∙ has-first b (take (word_len line) line)

first-word : (b : ℕ) (line : List ℕ) → is_blank b ≡ false → words (b ∷ line) ≡ words_without_blanks (b ∷ line)
first-word b line e =
    let all : List ℕ = b ∷ line in
    let word : List ℕ = take (word_len all) all in
    let here : SplitWords all = SplitWords-blank all in
    ap (filter has_bytes) here.is
    ∙ (ap (λ (ws : List (List ℕ)). cond (has_bytes word) (word ∷ ws) ws) here.words_are
    ∙ cond-true (has_bytes word) (word ∷ words (drop (word_len all) all)) (words (drop (word_len all) all)) []
    (has-other b line e))

first-by : (b : ℕ) (line : List ℕ) → words line ≡ words_without_blanks (drop (prefix_len is_blank line) line)
    → (t : Bool)
    → is_blank b ≡ t
    → words (b ∷ line) ≡ words_without_blanks (drop (prefix_len is_blank (b ∷ line)) (b ∷ line))
first-by b line more true e =
    let skips : prefix_len is_blank (b ∷ line) ≡ suc (prefix_len is_blank line) =
    ap (λ (t : Bool). cond t (1 + prefix_len is_blank line) 0) e ∙ one_more (prefix_len is_blank line) in
    words-blank b line e ∙ (more ∙ ap (λ (n : ℕ). words_without_blanks (drop n (b ∷ line))) (sym skips))
first-by b line more false e =
    let stays : prefix_len is_blank (b ∷ line) ≡ 0 = ap (λ (t : Bool). cond t (1 + prefix_len is_blank line) 0) e in
    first-word b line e ∙ ap (λ (n : ℕ). words_without_blanks (drop n (b ∷ line))) (sym stays)

words-skip_blanks : (line : List ℕ) → words line ≡ words_without_blanks (drop (prefix_len is_blank line) line)
words-skip_blanks [] = refl
words-skip_blanks (b ∷ line) = first-by b line (words-skip_blanks line) (is_blank b) refl

-- the first word that is read of a line, and what stands behind it
pub words-first_word : (line s word rest : List ℕ) (n : ℕ) → s ≡ drop (prefix_len is_blank line) line → n ≡ word_len s
    → word ≡ take n s → rest ≡ drop n s
    → words line ≡ cond (has_bytes word) (word ∷ words rest) []
words-first_word line s word rest n is_s is_n is_word is_rest =
    let w : word ≡ take (word_len s) s = is_word ∙ ap (λ (k : ℕ). take k s) is_n in
    let r : rest ≡ drop (word_len s) s = is_rest ∙ ap (λ (k : ℕ). drop k s) is_n in
    words-skip_blanks line
    ∙ (ap words_without_blanks (sym is_s)
    ∙ (ap (λ (l : List ℕ). word_and_rest l (drop (word_len s) s)) (sym w) ∙ ap (word_and_rest word) (sym r)))
