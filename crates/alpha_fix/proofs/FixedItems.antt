-- The items of a source with barriers.
use Rattle.std.proofs.Common.{◌≡◌, ℕ, ◌+◌, List, [], ◌∷◌, ◌++◌, map, Bool, true, false, cond, nat_eq, ◌&&◌, None, codes}
use Rattle.std.proofs.Common.{refl, sym, ◌∙◌, ap, subst}
use Rattle.std.specs.List.{flat_map}
use Rattle.std.proofs.lemmas.Simd.{map-map}
use Rattle.alpha_table.specs.declared.form.Form.TheVariants.{Misc}
use Rattle.alpha_table.specs.declared.rows.MiscOp.TheVariants.{Trapb}
use Rattle.alpha_text.specs.Statements.{Stmt, code}
use Rattle.alpha_text.specs.Reading.{LineStmt}
use Rattle.alpha_asm.specs.Assembled.{item_at}
use Rattle.alpha_asm.specs.SourceLines.{SourceLine, ended, unended, line_bytes, line_text, with_feed, source_lines}
use Rattle.alpha_asm.specs.SourceLines.{line_item}
use Rattle.alpha_fix.specs.FixedSource.{is_cut, trapb_line, has_insn, has_word, word_count, bar_if, then_bar}
use Rattle.alpha_fix.specs.FixedSource.{fixed_lines, fixed_source}
use Rattle.alpha_fix.specs.FixedLines.{items_of}
use Rattle.alpha_asm.proofs.SourceLines.{source_lines-joined, lines-source_lines, HasNoLineFeed, AreLines}
use Rattle.alpha_asm.proofs.SourceLines.{source_lines-line_bytes, source_lines-AreLines}

abbrev pub trapb_stmt : Stmt
trapb_stmt = code (Misc Trapb)

abbrev pub trapb_item : LineStmt
trapb_item = record { label = None; statement = trapb_stmt }

-- the items of those lines
abbrev pub fixed_items : (ℕ → Bool) → ℕ → ℕ → List LineStmt → List LineStmt
fixed_items cut words place [] = []
fixed_items cut words place (i ∷ is) =
    cond (has_insn i)
    (bar_if (cut place) trapb_item
    ++ (i ∷ (bar_if (nat_eq (place + 1) words && cut words) trapb_item ++ fixed_items cut words (place + 1) is)))
    (i ∷ fixed_items cut words place is)

-- a line says the same with a line feed
abbrev pub EndsAlike : List SourceLine → Type 0
EndsAlike [] = Unit {0}
EndsAlike (l ∷ ls) = (line_item (with_feed l) ≡ line_item l) × EndsAlike ls

module _ (trapb_reads : line_item trapb_line ≡ trapb_item) where
  items_step : (h c m : Bool) (l : SourceLine) (r1 r2 : List SourceLine) (i1 i2 : List LineStmt)
      → line_item (with_feed l) ≡ line_item l
      → map line_item r1 ≡ i1 → map line_item r2 ≡ i2
      → map line_item (cond h (bar_if c trapb_line ++ (then_bar m l ++ r1)) (l ∷ r2))
      ≡ cond h (bar_if c trapb_item ++ (line_item l ∷ (bar_if m trapb_item ++ i1))) (line_item l ∷ i2)
  items_step false c m l r1 r2 i1 i2 e f g = ap (λ t. line_item l ∷ t) g
  items_step true true true l r1 r2 i1 i2 e f g =
      ap (λ b. b ∷ line_item (with_feed l) ∷ b ∷ map line_item r1) trapb_reads
      ∙ (ap (λ x. trapb_item ∷ x ∷ trapb_item ∷ map line_item r1) e
      ∙ ap (λ t. trapb_item ∷ line_item l ∷ trapb_item ∷ t) f)
  items_step true true false l r1 r2 i1 i2 e f g =
      ap (λ b. b ∷ line_item l ∷ map line_item r1) trapb_reads ∙ ap (λ t. trapb_item ∷ line_item l ∷ t) f
  items_step true false true l r1 r2 i1 i2 e f g =
      ap (λ b. line_item (with_feed l) ∷ b ∷ map line_item r1) trapb_reads
      ∙ (ap (λ x. x ∷ trapb_item ∷ map line_item r1) e ∙ ap (λ t. line_item l ∷ trapb_item ∷ t) f)
  items_step true false false l r1 r2 i1 i2 e f g = ap (λ t. line_item l ∷ t) f

  items_of_lines : (cut : ℕ → Bool) (n k : ℕ) (ls : List SourceLine) → EndsAlike ls
      → map line_item (fixed_lines cut n k ls) ≡ fixed_items cut n k (map line_item ls)
  items_of_lines cut n k [] a = refl
  items_of_lines cut n k (l ∷ ls) (e, a) =
      items_step (has_word l) (cut k) (nat_eq (k + 1) n && cut n) l (fixed_lines cut n (k + 1) ls)
      (fixed_lines cut n k ls)
      (fixed_items cut n (k + 1) (map line_item ls)) (fixed_items cut n k (map line_item ls)) e
      (items_of_lines cut n (k + 1) ls a) (items_of_lines cut n k ls a)

-- the lines with barriers are those of a text

trapb_clean : HasNoLineFeed (codes "trapb")
trapb_clean = (refl, (refl, (refl, (refl, (refl, tt)))))

bar_are : (b : Bool) (ls : List SourceLine) → AreLines ls → AreLines (bar_if b trapb_line ++ ls)
bar_are true ls a = (trapb_clean, a)
bar_are false ls a = a

ended_are : (h c m : Bool) (t : List ℕ) (r1 r2 : List SourceLine) → HasNoLineFeed t → AreLines r1 → AreLines r2
    → AreLines (cond h (bar_if c trapb_line ++ (then_bar m (ended t) ++ r1)) (ended t ∷ r2))
ended_are false c m t r1 r2 n a b = (n, b)
ended_are true c true t r1 r2 n a b = bar_are c _ (n, (trapb_clean, a))
ended_are true c false t r1 r2 n a b = bar_are c _ (n, a)

unended_are : (h c m : Bool) (b : ℕ) (t : List ℕ) (r1 r2 : List SourceLine) → HasNoLineFeed (b ∷ t) → AreLines r1
    → r1 ≡ [] → r2 ≡ []
    → AreLines (cond h (bar_if c trapb_line ++ (then_bar m (unended (b ∷ t)) ++ r1)) (unended (b ∷ t) ∷ r2))
unended_are false c m b t r1 r2 n a e f = (n, f)
unended_are true c true b t r1 r2 n a e f = bar_are c _ (n, (trapb_clean, a))
unended_are true c false b t r1 r2 n a e f = bar_are c _ (n, e)

pub fixed_lines-AreLines : (cut : ℕ → Bool) (n k : ℕ) (ls : List SourceLine) → AreLines ls
    → AreLines (fixed_lines cut n k ls)
fixed_lines-AreLines cut n k [] a = tt
fixed_lines-AreLines cut n k (ended t ∷ ls) (c, a) =
    ended_are (has_word (ended t)) (cut k) (nat_eq (k + 1) n && cut n) t (fixed_lines cut n (k + 1) ls)
    (fixed_lines cut n k ls) c (fixed_lines-AreLines cut n (k + 1) ls a) (fixed_lines-AreLines cut n k ls a)
fixed_lines-AreLines cut n k (unended [] ∷ ls) a = absurd a
fixed_lines-AreLines cut n k (unended (b ∷ t) ∷ ls) (c, e) =
    unended_are (has_word (unended (b ∷ t))) (cut k) (nat_eq (k + 1) n && cut n) b t (fixed_lines cut n (k + 1) ls)
    (fixed_lines cut n k ls) c
    (subst (λ (l : List SourceLine). AreLines (fixed_lines cut n (k + 1) l)) (sym e) tt)
    (ap (fixed_lines cut n (k + 1)) e) (ap (fixed_lines cut n k) e)

-- the items of a source's lines
pub items_by_lines : (s : List ℕ) → items_of s ≡ map line_item (source_lines s)
items_by_lines s = ap (map item_at) (lines-source_lines s) ∙ map-map item_at line_text (source_lines s)

pub items_of_fixed : line_item trapb_line ≡ trapb_item → (source cuts : List ℕ) → EndsAlike (source_lines source)
    → items_of (fixed_source source cuts) ≡ fixed_items (is_cut cuts) (word_count source) 0 (items_of source)
unfolding fixed_source
items_of_fixed reads source cuts a =
    let ls : List SourceLine = fixed_lines (is_cut cuts) (word_count source) 0 (source_lines source) in
    items_by_lines (flat_map line_bytes ls)
    ∙ (ap (map line_item)
    (source_lines-line_bytes ls
    (fixed_lines-AreLines (is_cut cuts) (word_count source) 0 (source_lines source) (source_lines-AreLines source)))
    ∙ (items_of_lines reads (is_cut cuts) (word_count source) 0 (source_lines source) a
    ∙ ap (fixed_items (is_cut cuts) (word_count source) 0) (sym (items_by_lines source))))

-- no cut changes nothing

none_step : (h m : Bool) (l : SourceLine) (r1 r2 ls : List SourceLine) → r1 ≡ ls → r2 ≡ ls
    → cond h (then_bar (m && false) l ++ r1) (l ∷ r2) ≡ l ∷ ls
none_step true true l r1 r2 ls e f = ap (λ t. l ∷ t) e
none_step true false l r1 r2 ls e f = ap (λ t. l ∷ t) e
none_step false m l r1 r2 ls e f = ap (λ t. l ∷ t) f

none_fixed : (n k : ℕ) (ls : List SourceLine) → fixed_lines (is_cut []) n k ls ≡ ls
none_fixed n k [] = refl
none_fixed n k (l ∷ ls) =
    none_step (has_word l) (nat_eq (k + 1) n) l (fixed_lines (is_cut []) n (k + 1) ls)
    (fixed_lines (is_cut []) n k ls) ls (none_fixed n (k + 1) ls) (none_fixed n k ls)

pub fixed_source-no_cuts : (source : List ℕ) → fixed_source source [] ≡ source
unfolding fixed_source
fixed_source-no_cuts source =
    ap (flat_map line_bytes) (none_fixed (word_count source) 0 (source_lines source)) ∙ source_lines-joined source
