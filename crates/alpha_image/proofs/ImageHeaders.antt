-- What stands before the code gives the numbers that it was made of, and is what its numbers make.
use Rattle.std.proofs.Common.{◌≡◌, ℕ, zero, suc, ◌+◌, ◌*◌, ◌^◌, ◌<◌, ◌≤◌, List, [], ◌∷◌, ◌++◌, length, drop, refl, sym}
use Rattle.std.proofs.Common.{ap, ◌∙◌, append_assoc, ⊎_elim, arith}
use Rattle.std.specs.Prelude.{true, nat_eq}
use Rattle.std.specs.List.{concat, flat_map, starts_with, All}
use Rattle.std.proofs.lemmas.List.{append-nil, drop-drop, length-append, length-drop}
use Rattle.std.proofs.lemmas.List.Elements.{All-head, All-tail}
use Rattle.alpha_image.specs.declared.segment.Segment.{Segment}
use Rattle.alpha_image.specs.declared.version.Version.{Version}
use Rattle.alpha_image.specs.declared.version.Version.TheVariants.{One, Two}
use Rattle.alpha_image.specs.Numbers.{Numbers}
use Rattle.alpha_image.specs.Layout.{magic, quadword, longword, segment_numbers, first_segment, image_header}
use Rattle.alpha_image.specs.Reading.{version_of, quadword_at, longword_at, segment_in, segments_in, image_header_size}
use Rattle.alpha_image.specs.Reading.{numbers_in}
use Rattle.alpha_image.specs.Rules.{FieldsFit, size_of_segment}
use Rattle.alpha_image.specs.TestsDecide.{LevelFits}
use Rattle.alpha_image.specs.Parts.{SuitsVersion}
use Rattle.alpha_image.proofs.LittleEndianNumbers.{IsBytes, IsBytes-drop, quadword_at-front, longword_at-front}
use Rattle.alpha_image.proofs.LittleEndianNumbers.{drop-quadword}
use Rattle.alpha_image.proofs.LittleEndianNumbers.{drop-longword}
use Rattle.alpha_image.proofs.SegmentLists.{length-segments_in}

abbrev pub EndsFit : Segment → Type 0
EndsFit s = s.base + size_of_segment s ≤ 2 ^ 30

-- the numbers of a segment give it again
segment_in-numbers : (s : Segment) (rest : List ℕ) → EndsFit s → segment_in (segment_numbers s ++ rest) ≡ s
unfolding quadword longword
segment_in-numbers s rest fits =
    let t = segment_numbers s ++ rest in
    let base = quadword_at-front t 0 s.base _ refl (omega arith) in
    let filled = longword_at-front t 8 s.filled _ refl (omega arith) in
    let zeroed = longword_at-front t 12 s.zeroed _ refl (omega arith) in
    rw (base, filled, zeroed) refl

segment_behind : (s : Segment) (rest : List ℕ) → drop 16 (segment_numbers s ++ rest) ≡ rest
unfolding quadword longword
segment_behind s rest = refl

pub segments_in-numbers : (segments : List Segment) (rest : List ℕ) → All EndsFit segments
    → segments_in (length segments) (flat_map segment_numbers segments ++ rest) ≡ segments
segments_in-numbers [] rest fits = refl
segments_in-numbers (s ∷ segments) rest fits =
    let more = flat_map segment_numbers segments ++ rest in
    let at : flat_map segment_numbers (s ∷ segments) ++ rest ≡ segment_numbers s ++ more = simp append_assoc in
    ap (λ (t : List ℕ). segment_in t ∷ segments_in (length segments) (drop 16 t)) at
    ∙ (ap (λ (first : Segment). first ∷ segments_in (length segments) (drop 16 (segment_numbers s ++ more)))
    (segment_in-numbers s more (All-head EndsFit s segments fits))
    ∙ (ap (λ (t : List ℕ). s ∷ segments_in (length segments) t) (segment_behind s more)
    ∙ ap (λ (t : List Segment). s ∷ t) (segments_in-numbers segments rest (All-tail EndsFit s segments fits))))

-- what bytes of the first version say, if they say these numbers
record SaysFirst (n : Numbers) (s : Segment) (t : List ℕ) : Type 0 where
  code_base : quadword_at 8 t ≡ n.code_base
  base : quadword_at 16 t ≡ s.base
  entry : quadword_at 24 t ≡ n.entry
  words : longword_at 32 t ≡ n.words
  filled : longword_at 36 t ≡ s.filled
  zeroed : longword_at 40 t ≡ s.zeroed
  stack : longword_at 44 t ≡ n.stack

says_first : (n : Numbers) (rest : List ℕ) → FieldsFit n → EndsFit (first_segment n.segments)
    → SaysFirst n (first_segment n.segments) (image_header One n ++ rest)
unfolding image_header quadword longword
says_first n rest fit ends =
    let s = first_segment n.segments in
    let t = image_header One n ++ rest in
    record {
      code_base = quadword_at-front t 8 n.code_base _ refl (omega (arith, fit.code_base));
      base = quadword_at-front t 16 s.base _ refl (omega (arith, ends));
      entry = quadword_at-front t 24 n.entry _ refl (omega (arith, fit.entry, fit.words));
      words = longword_at-front t 32 n.words _ refl (omega (arith, fit.words));
      filled = longword_at-front t 36 s.filled _ refl (omega (arith, ends));
      zeroed = longword_at-front t 40 s.zeroed _ refl (omega (arith, ends));
      stack = longword_at-front t 44 n.stack _ refl (omega (arith, fit.stack));
    }

first_segment-alone : (segments : List Segment) → length segments ≡ 1 → first_segment segments ∷ [] ≡ segments
first_segment-alone [] e = absurd (omega arith)
first_segment-alone (s ∷ []) e = refl
first_segment-alone (s ∷ t ∷ rest) e = absurd (omega arith)

first_ends : (segments : List Segment) → All EndsFit segments → EndsFit (first_segment segments)
first_ends [] fits = omega arith
first_ends (s ∷ rest) fits = All-head EndsFit s rest fits

abbrev numbers-of_segments : ℕ → ℕ → ℕ → ℕ → ℕ → List Segment → Numbers
numbers-of_segments level code_base entry words stack segments = record {
  level = level;
  code_base = code_base;
  entry = entry;
  words = words;
  stack = stack;
  segments = segments;
}

-- numbers with the parts of others
same_numbers : (n : Numbers) (a b c d e : ℕ) (ss : List Segment) → a ≡ n.level → b ≡ n.code_base → c ≡ n.entry
    → d ≡ n.words → e ≡ n.stack → ss ≡ n.segments → numbers-of_segments a b c d e ss ≡ n
same_numbers n a b c d e ss ea eb ec ed ee es = rw (ea, eb, ec, ed, ee, es) refl

same_segment : (s : Segment) (a b c : ℕ) → a ≡ s.base → b ≡ s.filled → c ≡ s.zeroed
    → record { base = a; filled = b; zeroed = c } ≡ s
same_segment s a b c ea eb ec = rw (ea, eb, ec) refl

numbers_in-first : (n : Numbers) (rest : List ℕ) → FieldsFit n → SuitsVersion One n
    → numbers_in One (image_header One n ++ rest) ≡ n
numbers_in-first n rest fit suits =
    let says = says_first n rest fit (first_ends n.segments fit.zeroed.1) in
    let segment = same_segment (first_segment n.segments) _ _ _ says.base says.filled says.zeroed in
    same_numbers n _ _ _ _ _ _ (sym suits.0) says.code_base says.entry says.words says.stack
    (ap (λ (s : Segment). s ∷ []) segment ∙ first_segment-alone n.segments suits.1)

-- what bytes of the second version say, if they say these numbers
record SaysLevel (n : Numbers) (t : List ℕ) : Type 0 where
  code_base : quadword_at 8 t ≡ n.code_base
  entry : quadword_at 16 t ≡ n.entry
  words : longword_at 24 t ≡ n.words
  stack : longword_at 28 t ≡ n.stack
  level : longword_at 32 t ≡ n.level
  count : longword_at 36 t ≡ length n.segments

level-lt : (n : Numbers) → LevelFits n → n.level < 2 ^ 32
level-lt n fits = ⊎_elim (λ (e : n.level ≡ 1). omega arith) (λ (e : n.level ≡ 2). omega arith) fits

says_level : (n : Numbers) (rest : List ℕ) → FieldsFit n → SaysLevel n (image_header Two n ++ rest)
unfolding image_header quadword longword
says_level n rest fit =
    let t = image_header Two n ++ rest in
    record {
      code_base = quadword_at-front t 8 n.code_base _ refl (omega (arith, fit.code_base));
      entry = quadword_at-front t 16 n.entry _ refl (omega (arith, fit.entry, fit.words));
      words = longword_at-front t 24 n.words _ refl (omega (arith, fit.words));
      stack = longword_at-front t 28 n.stack _ refl (omega (arith, fit.stack));
      level = longword_at-front t 32 n.level _ refl (level-lt n fit.level);
      count = longword_at-front t 36 (length n.segments) _ refl (omega (arith, fit.segments));
    }

segments_behind : (n : Numbers) (rest : List ℕ)
    → drop 40 (image_header Two n ++ rest) ≡ (flat_map segment_numbers n.segments ++ []) ++ rest
unfolding image_header quadword longword
segments_behind n rest = refl

numbers_in-level : (n : Numbers) (rest : List ℕ) → FieldsFit n → numbers_in Two (image_header Two n ++ rest) ≡ n
numbers_in-level n rest fit =
    let t = image_header Two n ++ rest in
    let says = says_level n rest fit in
    let behind : drop 40 t ≡ flat_map segment_numbers n.segments ++ rest =
    segments_behind n rest ∙ ap (λ (xs : List ℕ). xs ++ rest) (append-nil (flat_map segment_numbers n.segments)) in
    same_numbers n _ _ _ _ _ _ says.level says.code_base says.entry says.words says.stack
    (ap (λ (k : ℕ). segments_in k (drop 40 t)) says.count
    ∙ (ap (λ (xs : List ℕ). segments_in (length n.segments) xs) behind
    ∙ segments_in-numbers n.segments rest fit.zeroed.1))

-- the numbers at a front are those that it was made of
pub numbers_in-image_header : (v : Version) (n : Numbers) (rest : List ℕ) → FieldsFit n → SuitsVersion v n
    → numbers_in v (image_header v n ++ rest) ≡ n
numbers_in-image_header One n rest fit suits = numbers_in-first n rest fit suits
numbers_in-image_header Two n rest fit suits = numbers_in-level n rest fit

pub version_of-image_header : (v : Version) (n : Numbers) (rest : List ℕ) → version_of (image_header v n ++ rest) ≡ v
unfolding version_of image_header quadword longword
version_of-image_header One n rest = refl
version_of-image_header Two n rest = refl

length-segment_numbers : (segments : List Segment) → length (flat_map segment_numbers segments) ≡ 16 * length segments
unfolding quadword longword
length-segment_numbers [] = refl
length-segment_numbers (s ∷ segments) = omega (arith, length-segment_numbers segments)

pub length-image_header : (v : Version) (n : Numbers) → length (image_header v n) ≡ image_header_size v n
unfolding image_header quadword longword
length-image_header One n = refl
length-image_header Two n =
    omega (arith, length-append (flat_map segment_numbers n.segments) [], length-segment_numbers n.segments)

-- the other way round
segment_numbers-in : (bytes : List ℕ) → IsBytes bytes → 16 ≤ length bytes
    → segment_numbers (segment_in bytes) ++ drop 16 bytes ≡ bytes
segment_numbers-in bytes fits long =
    let a : bytes ≡ quadword (quadword_at 0 bytes) ++ drop 8 bytes = drop-quadword bytes 0 8 fits (omega arith) refl in
    let b : drop 8 bytes ≡ longword (longword_at 8 bytes) ++ drop 12 bytes =
    drop-longword bytes 8 12 fits (omega arith) refl in
    let c : drop 12 bytes ≡ longword (longword_at 12 bytes) ++ drop 16 bytes =
    drop-longword bytes 12 16 fits (omega arith) refl in
    simp append_assoc (sym (a ∙ ap (λ (t : List ℕ). quadword (quadword_at 0 bytes) ++ t)
    (b ∙ ap (λ (t : List ℕ). longword (longword_at 8 bytes) ++ t) c)))

segments_numbers-in : (n : ℕ) (bytes : List ℕ) → IsBytes bytes → 16 * n ≤ length bytes
    → flat_map segment_numbers (segments_in n bytes) ++ drop (16 * n) bytes ≡ bytes
segments_numbers-in zero bytes fits long = refl
segments_numbers-in (suc n) bytes fits long =
    let later = drop 16 bytes in
    let ih : flat_map segment_numbers (segments_in n later) ++ drop (16 * n) later ≡ later =
    segments_numbers-in n later (IsBytes-drop 16 bytes fits) (omega (arith, length-drop 16 bytes)) in
    let behind : 16 + 16 * n ≡ 16 * suc n = omega arith in
    let at : drop (16 * n) later ≡ drop (16 * suc n) bytes =
    drop-drop (16 * n) 16 bytes ∙ ap (λ (k : ℕ). drop k bytes) behind in
    let one : flat_map segment_numbers (segments_in (suc n) bytes) ++ drop (16 * suc n) bytes
    ≡ segment_numbers (segment_in bytes)
    ++ (flat_map segment_numbers (segments_in n later) ++ drop (16 * suc n) bytes) =
    simp append_assoc in
    one
    ∙ (ap (λ (t : List ℕ). segment_numbers (segment_in bytes) ++ (flat_map segment_numbers (segments_in n later) ++ t))
    (sym at)
    ∙ (ap (λ (t : List ℕ). segment_numbers (segment_in bytes) ++ t) ih ∙ segment_numbers-in bytes fits (omega arith)))

-- eight parts and the rest
parts_and_rest : (a b c d e f g h rest : List ℕ)
    → concat (a ∷ b ∷ c ∷ d ∷ e ∷ f ∷ g ∷ h ∷ []) ++ rest ≡ a ++ (b ++ (c ++ (d ++ (e ++ (f ++ (g ++ (h ++ rest)))))))
parts_and_rest a b c d e f g h rest = simp (append_assoc, append-nil)

image_header-first : (bytes : List ℕ) → IsBytes bytes → 48 ≤ length bytes → bytes ≡ magic One ++ drop 8 bytes
    → bytes ≡ image_header One (numbers_in One bytes) ++ drop 48 bytes
unfolding image_header
image_header-first bytes fits long starts =
    let n = numbers_in One bytes in
    starts
    ∙ (ap (λ (t : List ℕ). magic One ++ t) (drop-quadword bytes 8 16 fits (omega arith) refl
    ∙ ap (λ (t : List ℕ). quadword n.code_base ++ t) (drop-quadword bytes 16 24 fits (omega arith) refl
    ∙ ap (λ (t : List ℕ). quadword (quadword_at 16 bytes) ++ t) (drop-quadword bytes 24 32 fits (omega arith) refl
    ∙ ap (λ (t : List ℕ). quadword n.entry ++ t) (drop-longword bytes 32 36 fits (omega arith) refl
    ∙ ap (λ (t : List ℕ). longword n.words ++ t) (drop-longword bytes 36 40 fits (omega arith) refl
    ∙ ap (λ (t : List ℕ). longword (longword_at 36 bytes) ++ t) (drop-longword bytes 40 44 fits (omega arith) refl
    ∙ ap (λ (t : List ℕ). longword (longword_at 40 bytes) ++ t)
    (drop-longword bytes 44 48 fits (omega arith) refl)))))))
    ∙ sym (parts_and_rest (magic One) (quadword n.code_base) (quadword (quadword_at 16 bytes)) (quadword n.entry)
    (longword n.words) (longword (longword_at 36 bytes)) (longword (longword_at 40 bytes)) (longword n.stack)
    (drop 48 bytes)))

image_header-level : (bytes : List ℕ) → IsBytes bytes
    → 40 + 16 * longword_at 36 bytes ≤ length bytes → bytes ≡ magic Two ++ drop 8 bytes
    → bytes ≡ image_header Two (numbers_in Two bytes) ++ drop (40 + 16 * longword_at 36 bytes) bytes
unfolding image_header
image_header-level bytes fits long starts =
    let n = numbers_in Two bytes in
    let k = longword_at 36 bytes in
    let rest = drop (40 + 16 * k) bytes in
    let count : k ≡ length n.segments = sym (length-segments_in k (drop 40 bytes)) in
    let segments : flat_map segment_numbers n.segments ++ rest ≡ drop 40 bytes =
    ap (λ (t : List ℕ). flat_map segment_numbers n.segments ++ t) (sym (drop-drop (16 * k) 40 bytes))
    ∙ segments_numbers-in k (drop 40 bytes) (IsBytes-drop 40 bytes fits) (omega (arith, length-drop 40 bytes)) in
    starts
    ∙ (ap (λ (t : List ℕ). magic Two ++ t) (drop-quadword bytes 8 16 fits (omega arith) refl
    ∙ ap (λ (t : List ℕ). quadword n.code_base ++ t) (drop-quadword bytes 16 24 fits (omega arith) refl
    ∙ ap (λ (t : List ℕ). quadword n.entry ++ t) (drop-longword bytes 24 28 fits (omega arith) refl
    ∙ ap (λ (t : List ℕ). longword n.words ++ t) (drop-longword bytes 28 32 fits (omega arith) refl
    ∙ ap (λ (t : List ℕ). longword n.stack ++ t) (drop-longword bytes 32 36 fits (omega arith) refl
    ∙ ap (λ (t : List ℕ). longword n.level ++ t) (drop-longword bytes 36 40 fits (omega arith) refl
    ∙ (ap (λ (c : ℕ). longword c ++ drop 40 bytes) count
    ∙ ap (λ (t : List ℕ). longword (length n.segments) ++ t) (sym segments))))))))
    ∙ sym (parts_and_rest (magic Two) (quadword n.code_base) (quadword n.entry) (longword n.words) (longword n.stack)
    (longword n.level) (longword (length n.segments)) (flat_map segment_numbers n.segments) rest))

-- bytes that are long enough begin with the front that their numbers make
pub image_header-numbers_in : (v : Version) (bytes : List ℕ) → IsBytes bytes
    → image_header_size v (numbers_in v bytes) ≤ length bytes → bytes ≡ magic v ++ drop 8 bytes
    → bytes ≡ image_header v (numbers_in v bytes) ++ drop (image_header_size v (numbers_in v bytes)) bytes
image_header-numbers_in One bytes fits long starts = image_header-first bytes fits long starts
image_header-numbers_in Two bytes fits long starts =
    let k = longword_at 36 bytes in
    let count : k ≡ length (segments_in k (drop 40 bytes)) = sym (length-segments_in k (drop 40 bytes)) in
    image_header-level bytes fits (omega (arith, long, count)) starts
    ∙ ap (λ (c : ℕ). image_header Two (numbers_in Two bytes) ++ drop (40 + 16 * c) bytes) count

pub count-image_header : (n : Numbers) (rest : List ℕ) → FieldsFit n
    → longword_at 36 (image_header Two n ++ rest) ≡ length n.segments
count-image_header n rest fit = let says = says_level n rest fit in says.count

pub starts_with-image_header : (v : Version) (n : Numbers) (rest : List ℕ)
    → starts_with nat_eq (image_header v n ++ rest) (magic v) ≡ true
unfolding image_header
starts_with-image_header One n rest = refl
starts_with-image_header Two n rest = refl
