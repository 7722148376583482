-- The lines of a source: joined they are the source, and without their ends what the library says its lines are.
use Rattle.std.proofs.Common.{◌≡◌, ℕ, suc, List, [], ◌∷◌, ◌++◌, length, map, Bool, true, false, cond, eqb, refl, sym}
use Rattle.std.proofs.Common.{◌∙◌, ap, eqb-true, arith}
use Rattle.std.specs.List.{flat_map, slice_split, onto_first}
use Rattle.std.specs.Str.Lines.{lines, lines_of_parts, strip_carriage_return}
use Rattle.std.proofs.lemmas.List.{append-nil}
use Rattle.std.proofs.lemmas.Bool.Decides.{nat_tests}
use Rattle.alpha_asm.specs.SourceLines.{SourceLine, ended, unended, line_bytes, line_text, longer, source_lines}

abbrev is_line_feed : ℕ → Bool
is_line_feed b = eqb b 10

bytes-longer : (b : ℕ) (ls : List SourceLine) → flat_map line_bytes (longer b ls) ≡ b ∷ flat_map line_bytes ls
bytes-longer b [] = refl
bytes-longer b (ended t ∷ ls) = refl
bytes-longer b (unended t ∷ ls) = refl

bytes_step : (b : ℕ) (s : List ℕ) (ls : List SourceLine) (t : Bool) → eqb b 10 ≡ t → flat_map line_bytes ls ≡ s
    → flat_map line_bytes (cond t (ended [] ∷ ls) (longer b ls)) ≡ b ∷ s
bytes_step b s ls true e h = ap (λ n. n ∷ flat_map line_bytes ls) (sym (eqb-true b 10 e)) ∙ ap (λ l. b ∷ l) h
bytes_step b s ls false e h = bytes-longer b ls ∙ ap (λ l. b ∷ l) h

pub source_lines-joined : (s : List ℕ) → flat_map line_bytes (source_lines s) ≡ s
source_lines-joined [] = refl
source_lines-joined (b ∷ s) = bytes_step b s (source_lines s) (eqb b 10) refl (source_lines-joined s)

-- the parts between line feeds as lines

abbrev last_line : List ℕ → List SourceLine
last_line [] = []
last_line (b ∷ t) = unended (b ∷ t) ∷ []

abbrev split_lines : List (List ℕ) → List SourceLine
split_lines [] = []
split_lines (x ∷ []) = last_line x
split_lines (x ∷ y ∷ more) = ended x ∷ split_lines (y ∷ more)

last_text : (x : List ℕ) → lines_of_parts (x ∷ []) ≡ map line_text (last_line x)
last_text [] = refl
last_text (b ∷ t) = let z : eqb (suc (length t)) 0 ≡ false = grind (arith, nat_tests) in rw z refl

lines_of_parts-split_lines : (parts : List (List ℕ)) → lines_of_parts parts ≡ map line_text (split_lines parts)
lines_of_parts-split_lines [] = refl
lines_of_parts-split_lines (x ∷ []) = last_text x
lines_of_parts-split_lines (x ∷ y ∷ more) =
    ap (λ l. strip_carriage_return x ∷ l) (lines_of_parts-split_lines (y ∷ more))

split-onto : (b : ℕ) (parts : List (List ℕ)) → split_lines (onto_first b parts) ≡ longer b (split_lines parts)
split-onto b [] = refl
split-onto b ([] ∷ []) = refl
split-onto b ((c ∷ t) ∷ []) = refl
split-onto b (x ∷ y ∷ more) = refl

more_parts : (x : List ℕ) (b : ℕ) (parts : List (List ℕ))
    → split_lines (x ∷ onto_first b parts) ≡ ended x ∷ split_lines (onto_first b parts)
more_parts x b [] = refl
more_parts x b (p ∷ ps) = refl

behind_part : (x s : List ℕ)
    → split_lines (x ∷ slice_split is_line_feed s) ≡ ended x ∷ split_lines (slice_split is_line_feed s)
behind_part x [] = refl
behind_part x (b ∷ s) =
    elim (is_line_feed b) as (λ t.
    split_lines (x ∷ cond t ([] ∷ slice_split is_line_feed s) (onto_first b (slice_split is_line_feed s)))
    ≡ ended x ∷ split_lines (cond t ([] ∷ slice_split is_line_feed s) (onto_first b (slice_split is_line_feed s))))
    [ true ↦ refl | false ↦ more_parts x b (slice_split is_line_feed s) ]

split_step : (b : ℕ) (s : List ℕ) (t : Bool) → source_lines s ≡ split_lines (slice_split is_line_feed s)
    → cond t (ended [] ∷ source_lines s) (longer b (source_lines s))
    ≡ split_lines (cond t ([] ∷ slice_split is_line_feed s) (onto_first b (slice_split is_line_feed s)))
split_step b s true h = ap (λ l. ended [] ∷ l) h ∙ sym (behind_part [] s)
split_step b s false h = ap (longer b) h ∙ sym (split-onto b (slice_split is_line_feed s))

source_lines-slice_split : (s : List ℕ) → source_lines s ≡ split_lines (slice_split is_line_feed s)
source_lines-slice_split [] = refl
source_lines-slice_split (b ∷ s) = split_step b s (eqb b 10) (source_lines-slice_split s)

pub lines-source_lines : (s : List ℕ) → lines s ≡ map line_text (source_lines s)
lines-source_lines s =
    lines_of_parts-split_lines (slice_split is_line_feed s) ∙ ap (map line_text) (sym (source_lines-slice_split s))

-- lines of which a text can be made: no line feed within, and only the last one without an end

abbrev pub HasNoLineFeed : List ℕ → Type 0
HasNoLineFeed [] = Unit {0}
HasNoLineFeed (b ∷ t) = (eqb b 10 ≡ false) × HasNoLineFeed t

abbrev pub AreLines : List SourceLine → Type 0
AreLines [] = Unit {0}
AreLines (ended t ∷ ls) = HasNoLineFeed t × AreLines ls
AreLines (unended [] ∷ ls) = ⊥
AreLines (unended (b ∷ t) ∷ ls) = HasNoLineFeed (b ∷ t) × (ls ≡ [])

pub source_lines-ended : (t s : List ℕ) → HasNoLineFeed t
    → source_lines ((t ++ 10 ∷ []) ++ s) ≡ ended t ∷ source_lines s
source_lines-ended [] s n = refl
source_lines-ended (b ∷ t) s (e, n) = rw e (ap (longer b) (source_lines-ended t s n))

pub source_lines-unended : (b : ℕ) (t : List ℕ) → HasNoLineFeed (b ∷ t) → source_lines (b ∷ t) ≡ unended (b ∷ t) ∷ []
source_lines-unended b [] (e, n) = rw e refl
source_lines-unended b (c ∷ t) (e, n) = rw e (ap (longer b) (source_lines-unended c t n))

pub source_lines-line_bytes : (ls : List SourceLine) → AreLines ls → source_lines (flat_map line_bytes ls) ≡ ls
source_lines-line_bytes [] a = refl
source_lines-line_bytes (ended t ∷ ls) (n, a) =
    source_lines-ended t (flat_map line_bytes ls) n ∙ ap (λ l. ended t ∷ l) (source_lines-line_bytes ls a)
source_lines-line_bytes (unended [] ∷ ls) a = absurd a
source_lines-line_bytes (unended (b ∷ t) ∷ ls) (n, e) =
    ap (λ l. source_lines ((b ∷ t) ++ flat_map line_bytes l)) e
    ∙ (ap source_lines (append-nil (b ∷ t)) ∙ (source_lines-unended b t n ∙ ap (λ l. unended (b ∷ t) ∷ l) (sym e)))

are-longer : (b : ℕ) (ls : List SourceLine) → eqb b 10 ≡ false → AreLines ls → AreLines (longer b ls)
are-longer b [] e a = ((e, tt), refl)
are-longer b (ended t ∷ ls) e (n, a) = ((e, n), a)
are-longer b (unended [] ∷ ls) e a = absurd a
are-longer b (unended (c ∷ t) ∷ ls) e (n, k) = ((e, n), k)

are_step : (b : ℕ) (ls : List SourceLine) (t : Bool) → eqb b 10 ≡ t → AreLines ls
    → AreLines (cond t (ended [] ∷ ls) (longer b ls))
are_step b ls true e a = (tt, a)
are_step b ls false e a = are-longer b ls e a

pub source_lines-AreLines : (s : List ℕ) → AreLines (source_lines s)
source_lines-AreLines [] = tt
source_lines-AreLines (b ∷ s) = are_step b (source_lines s) (eqb b 10) refl (source_lines-AreLines s)
