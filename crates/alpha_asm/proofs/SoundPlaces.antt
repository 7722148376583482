-- A statement that is not misplaced leaves the data bytes where they are to be.
use Rattle.std.proofs.Common.{◌≡◌, ℕ, zero, ◌+◌, List, [], ◌∷◌, ◌++◌, length, Bool, true, false, cond, not, ◌&&◌, ◌||◌}
use Rattle.std.proofs.Common.{eqb, Option, None, Some, is_some, refl, sym, ◌∙◌, ap, arith}
use Rattle.std.proofs.lemmas.List.Sums.{sum_by-append, sum_by-cons}
use Rattle.alpha_text.specs.Statements.{Stmt}
use Rattle.alpha_text.specs.Statements as says
use Rattle.alpha_image.specs.declared.segment.Segment.{Segment}
use Rattle.alpha_image.specs.Layout.{filled_size}
use Rattle.alpha_asm.specs.declared.place.Section.{Section}
use Rattle.alpha_asm.specs.declared.place.Section.TheVariants.{Code, Data}
use Rattle.alpha_asm.specs.Statement.{cells, data_size}
use Rattle.alpha_asm.specs.Layout.{Place, place_after, fresh, grown, filled_pad, is_data, is_misplaced}
use Rattle.alpha_asm.specs.Pass.{Filled, Sound}

filled-snoc : (es : List Segment) (s : Segment) → filled_size (es ++ s ∷ []) ≡ filled_size es + s.filled
filled-snoc es s =
    sum_by-append (λ s. s.filled) es (s ∷ [])
    ∙ ap (λ n. filled_size es + n) (sum_by-cons (λ s. s.filled) s [] ∙ omega arith)

-- the segment in hand grows, where it may
Filled-larger_segment : (level : Option ℕ) (section next : Section) (earlier : List Segment) (last more : Segment)
    (size added : ℕ)
    → more.filled ≡ last.filled + added
    → ((n : ℕ) → level ≡ Some n → earlier ≡ [] → section ≡ Code → (next ≡ Code) × (added ≡ 0))
    → Filled level section earlier last size → Filled level next earlier more (size + added)
Filled-larger_segment None section next earlier last more size added g side (e, f) = (e, omega arith)
Filled-larger_segment (Some n) section next [] last more size added g side (c, z, s) =
    let (d, a) = side n refl refl c in
    (d, omega arith, omega arith)
Filled-larger_segment (Some n) section next (e ∷ es) last more size added g side f =
    omega (arith, f, g, filled-snoc es last, filled-snoc es more)

-- a segment begins
Filled-new_segment : (level : Option ℕ) (section : Section) (earlier : List Segment) (last : Segment) (base size : ℕ)
    → not (is_some level) ≡ false → Filled level section earlier last size
    → Filled level Data (earlier ++ last ∷ []) (fresh base) size
Filled-new_segment None section earlier last base size h f = cc
Filled-new_segment (Some n) section [] last base size h (c, z, s) = sym s
Filled-new_segment (Some n) section (e ∷ es) last base size h f =
    omega (arith, f, filled-snoc (es ++ last ∷ []) (fresh base))

cond-both_zero : (b : Bool) → cond {A = ℕ} b 0 0 ≡ zero
cond-both_zero true = refl
cond-both_zero false = refl

-- without data bytes
Filled-without_data : (p : Place) (next : Section) (more : Segment) (size added : ℕ)
    → more.filled ≡ p.last.filled + added
    → added ≡ 0 → (p.section ≡ Code → next ≡ Code) → Filled p.level p.section p.earlier p.last size
    → Filled p.level next p.earlier more (size + added)
Filled-without_data p next more size added g z stays f =
    Filled-larger_segment p.level p.section next p.earlier p.last more size added g (λ n e h c. (stays c, z)) f

-- with data bytes, which stand in data
Filled-with_data : (p : Place) (more : Segment) (size added : ℕ) → more.filled ≡ p.last.filled + added
    → (p.section ≡ Code → ⊥)
    → Filled p.level p.section p.earlier p.last size → Filled p.level p.section p.earlier more (size + added)
Filled-with_data p more size added g stands f =
    Filled-larger_segment p.level p.section p.section p.earlier p.last more size added g
    (λ n e h c. absurd (stands c)) f

pub or_true-not_false : (b : Bool) → (b || true) ≡ false → ⊥
or_true-not_false true h = cc
or_true-not_false false h = cc

pub or_false-identity : (b : Bool) → (b || false) ≡ false → b ≡ false
or_false-identity true h = cc
or_false-identity false h = refl

or-false_first : (a b : Bool) → (a || b) ≡ false → a ≡ false
or-false_first true b h = cc
or-false_first false b h = refl

data_only : (section : Section) → not (is_data section) ≡ false → section ≡ Code → ⊥
data_only Code h c = cc
data_only Data h c = cc

no_segment : (level : Option ℕ) (earlier : List Segment) (n : ℕ) → (is_some level && eqb (length earlier) 0) ≡ false
    → level ≡ Some n → earlier ≡ [] → ⊥
no_segment None earlier n h e z = cc
no_segment (Some m) [] n h e z = cc
no_segment (Some m) (s ∷ rest) n h e z = cc

filled-place_after : (p : Place) (size : ℕ) (s : Stmt) → is_misplaced p s ≡ false → Sound p size
    → Filled (place_after p s).level (place_after p s).section (place_after p s).earlier (place_after p s).last
    (size + (data_size s + filled_pad p s))
unfolding cells
filled-place_after p size says.empty h f =
    Filled-without_data p p.section (grown p says.empty) size (data_size says.empty + filled_pad p says.empty) refl
    (omega (arith, cond-both_zero p.has_zero)) (λ c. c) f.filled
filled-place_after p size (says.code insn) h f =
    Filled-without_data p p.section (grown p (says.code insn)) size
    (data_size (says.code insn) + filled_pad p (says.code insn)) refl
    (omega (arith, cond-both_zero p.has_zero)) (λ c. c) f.filled
filled-place_after p size (says.target insn label offset) h f =
    Filled-without_data p p.section (grown p (says.target insn label offset)) size
    (data_size (says.target insn label offset) + filled_pad p (says.target insn label offset)) refl
    (omega (arith, cond-both_zero p.has_zero)) (λ c. c) f.filled
filled-place_after p size (says.high insn label offset) h f =
    Filled-without_data p p.section (grown p (says.high insn label offset)) size
    (data_size (says.high insn label offset) + filled_pad p (says.high insn label offset)) refl
    (omega (arith, cond-both_zero p.has_zero)) (λ c. c) f.filled
filled-place_after p size (says.low insn label offset) h f =
    Filled-without_data p p.section (grown p (says.low insn label offset)) size
    (data_size (says.low insn label offset) + filled_pad p (says.low insn label offset)) refl
    (omega (arith, cond-both_zero p.has_zero)) (λ c. c) f.filled
filled-place_after p size (says.code_base n) h f =
    Filled-without_data p p.section (grown p (says.code_base n)) size
    (data_size (says.code_base n) + filled_pad p (says.code_base n))
    refl (omega (arith, cond-both_zero p.has_zero)) (λ c. c) f.filled
filled-place_after p size (says.data_base n) h f =
    Filled-without_data p p.section (grown p (says.data_base n)) size
    (data_size (says.data_base n) + filled_pad p (says.data_base n))
    refl (omega (arith, cond-both_zero p.has_zero)) (λ c. c) f.filled
filled-place_after p size (says.stack n) h f =
    Filled-without_data p p.section (grown p (says.stack n)) size
    (data_size (says.stack n) + filled_pad p (says.stack n)) refl
    (omega (arith, cond-both_zero p.has_zero)) (λ c. c) f.filled
filled-place_after p size (says.entry_at n) h f =
    Filled-without_data p p.section (grown p (says.entry_at n)) size
    (data_size (says.entry_at n) + filled_pad p (says.entry_at n))
    refl (omega (arith, cond-both_zero p.has_zero)) (λ c. c) f.filled
filled-place_after p size (says.entry_label label offset) h f =
    Filled-without_data p p.section (grown p (says.entry_label label offset)) size
    (data_size (says.entry_label label offset) + filled_pad p (says.entry_label label offset)) refl
    (omega (arith, cond-both_zero p.has_zero)) (λ c. c) f.filled
filled-place_after p size (says.zero n) h f =
    Filled-without_data p p.section (grown p (says.zero n)) size
    (data_size (says.zero n) + filled_pad p (says.zero n)) refl
    (omega (arith, cond-both_zero p.has_zero)) (λ c. c) f.filled
filled-place_after p size says.code_section h f =
    Filled-without_data p Code (grown p says.code_section) size
    (data_size says.code_section + filled_pad p says.code_section) refl
    (omega (arith, cond-both_zero p.has_zero)) (λ c. refl) f.filled
filled-place_after p size says.data_section h f =
    Filled-larger_segment p.level p.section Data p.earlier p.last (grown p says.data_section) size
    (data_size says.data_section + filled_pad p says.data_section) refl
    (λ n e z c. absurd (no_segment p.level p.earlier n h e z)) f.filled
filled-place_after p size (says.align n) h f =
    Filled-with_data p (grown p (says.align n)) size (data_size (says.align n) + filled_pad p (says.align n)) refl
    (data_only p.section h) f.filled
filled-place_after p size (says.values bytes list) h f =
    Filled-with_data p (grown p (says.values bytes list)) size
    (data_size (says.values bytes list) + filled_pad p (says.values bytes list)) refl
    (data_only p.section (or-false_first (not (is_data p.section)) p.has_zero h)) f.filled
filled-place_after p size (says.text text) h f =
    Filled-with_data p (grown p (says.text text)) size (data_size (says.text text) + filled_pad p (says.text text)) refl
    (data_only p.section (or-false_first (not (is_data p.section)) p.has_zero h)) f.filled
filled-place_after p size (says.segment base) h f =
    let z : size + (data_size (says.segment base) + filled_pad p (says.segment base)) ≡ size =
    omega (arith, cond-both_zero p.has_zero) in
    let so : Filled p.level Data (p.earlier ++ p.last ∷ []) (fresh base) size =
    Filled-new_segment p.level p.section p.earlier p.last base size h f.filled in
    rw z so
filled-place_after p size (says.level n) h f = by p.level p.earlier (f.fresh h) f.filled
  where
    by : (level : Option ℕ) (earlier : List Segment)
        → (level ≡ None) × (p.section ≡ Code) × (size ≡ 0) → Filled level p.section earlier p.last size
        → Filled (Some n) p.section earlier (grown p (says.level n))
        (size + (data_size (says.level n) + filled_pad p (says.level n)))
    by None [] (l, c, z) (e, g) =
        (c, omega (arith, cond-both_zero p.has_zero), omega (arith, cond-both_zero p.has_zero))
    by None (s ∷ rest) (l, c, z) (e, g) = cc
    by (Some m) earlier (l, c, z) g = cc

pub sound-place_after : (p : Place) (size : ℕ) (s : Stmt) → is_misplaced p s ≡ false → Sound p size
    → Sound (place_after p s) (size + (data_size s + filled_pad p s))
unfolding cells
sound-place_after p size s h f = record { filled = filled-place_after p size s h f; fresh = untouched s }
  where
    untouched : (s : Stmt) → (place_after p s).begun ≡ false
        → ((place_after p s).level ≡ None) × ((place_after p s).section ≡ Code)
        × (size + (data_size s + filled_pad p s) ≡ 0)
    untouched says.empty g =
        let (l, c, z) = f.fresh (or_false-identity p.begun g) in
        (l, c, omega (arith, cond-both_zero p.has_zero))
    untouched _ g = absurd (or_true-not_false p.begun g)
