-- Why a line is refused, by the state of the pass.
use Rattle.std.proofs.Common.{◌≡◌, ℕ, ◌+◌, ◌<◌, ◌≤◌, List, [], ◌∷◌, ◌++◌, length, Bool, true, false, cond, ◌||◌, Option}
use Rattle.std.proofs.Common.{None, Some, is_some, Result, Ok, Err, OnOk, IfErr, nat_lt, refl, sym, ◌∙◌, ap, arith}
use Rattle.std.proofs.lemmas.Bool.Decides.{nat_tests}
use Rattle.alpha_text.specs.declared.reader.LineFault.{LineFault}
use Rattle.alpha_token.specs.Tokens.{tokens}
use Rattle.alpha_text.specs.Reading.{LineStmt, located, line_of, read}
use Rattle.alpha_quick.specs.Parts.{unlabelled, nothing_said}
use Rattle.alpha_table.specs.declared.form.Form.{Form}
use Rattle.alpha_asm.specs.declared.kind.SourceKind.{SourceKind}
use Rattle.alpha_asm.specs.declared.kind.SourceKind.TheVariants as kinds
use Rattle.alpha_asm.specs.declared.place.LabelLocation.{LabelLocation}
use Rattle.alpha_asm.specs.declared.fault.AsmFault.TheVariants.{Line, Section, Duplicate, LongLine}
use Rattle.alpha_asm.specs.declared.pass.Pass.{Pass}
use Rattle.alpha_asm.specs.Layout.{layout, fields, location_of, is_misplaced, is_misplaced_insn, is_barred}
use Rattle.alpha_asm.specs.Layout.{is_misplaced_in}
use Rattle.alpha_asm.specs.Layout.{repeats_field, repeats_label}
use Rattle.alpha_asm.specs.Assembled.{item_at, refused_read, refused}
use Rattle.alpha_asm.specs.Pass.{place_of, location_at, fields_read, refused_here, AddsItem, PassSimulates}
use Rattle.alpha_asm.proofs.NextItem.{PassSimulates-item}

-- a line with an instruction
pub read_insn : (line : List ℕ) (insn : Form) → line_of (tokens line) ≡ Ok (unlabelled insn)
    → read line ≡ Ok (unlabelled insn)
unfolding read
read_insn line insn h = ap (located (length line)) h

-- a line with an item
pub read_item : (line : List ℕ) (i : LineStmt) → line_of (tokens line) ≡ Ok i → read line ≡ Ok i
unfolding read
read_item line i h = ap (located (length line)) h

pub item_at-same : (line : List ℕ) (i : LineStmt) → line_of (tokens line) ≡ Ok i → item_at line ≡ i
item_at-same line i h = rw (read_item line i h) refl

pub insn_at : (line : List ℕ) (insn : Form) → line_of (tokens line) ≡ Ok (unlabelled insn)
    → item_at line ≡ unlabelled insn
insn_at line insn h = rw (read_insn line insn h) refl

pub long_line : (kind : SourceKind) (is : List LineStmt) (line : List ℕ) (p : Pass) → PassSimulates is p
    → 1024 < length line → refused kind is line ≡ Some (LongLine (p.line + 1))
unfolding refused
long_line kind is line p s h =
    let t : nat_lt 1024 (length line) ≡ true = grind (arith, nat_tests) in
    rw t (ap (λ n. Some (LongLine (n + 1))) (sym s.line))

short_line : (kind : SourceKind) (is : List LineStmt) (line : List ℕ) → length line ≤ 1024
    → refused kind is line ≡ refused_read kind is (length is + 1) (read line)
unfolding refused
short_line kind is line h = let t : nat_lt 1024 (length line) ≡ false = grind (arith, nat_tests) in rw t refl

pub bad_line : (kind : SourceKind) (is : List LineStmt) (line : List ℕ) (fault : LineFault) (p : Pass)
    → PassSimulates is p → length line ≤ 1024 → read line ≡ Err fault
    → refused kind is line ≡ Some (Line (p.line + 1) fault)
bad_line kind is line fault p s h e =
    short_line kind is line h
    ∙ (ap (refused_read kind is (length is + 1)) e ∙ ap (λ n. Some (Line (n + 1) fault)) (sym s.line))

same_label : (spots others : List ℕ → Option LabelLocation) (l : Option (List ℕ)) → ((n : List ℕ) → spots n ≡ others n)
    → repeats_label others l ≡ repeats_label spots l
same_label spots others None same = refl
same_label spots others (Some label) same = ap is_some (sym (same label))

pub item_line : (kind : SourceKind) (is : List LineStmt) (line : List ℕ) (i : LineStmt) (p : Pass) → PassSimulates is p
    → length line ≤ 1024 → read line ≡ Ok i → refused kind is line ≡ refused_here kind p i
item_line kind is line i p s h e =
    short_line kind is line h ∙ (ap (refused_read kind is (length is + 1)) e
    ∙ (ap (λ q. cond (is_misplaced_in kind q i.statement) (Some (Section (length is + 1)))
    (cond (repeats_field (fields (layout is)) i.statement || repeats_label (location_of (layout is)) i.label)
    (Some (Duplicate (length is + 1))) None))
    (sym s.place)
    ∙ (ap (λ f. cond (is_misplaced_in kind (place_of p) i.statement) (Some (Section (length is + 1)))
    (cond (repeats_field f i.statement || repeats_label (location_of (layout is)) i.label)
    (Some (Duplicate (length is + 1))) None))
    (sym s.fields)
    ∙ (ap (λ b. cond (is_misplaced_in kind (place_of p) i.statement) (Some (Section (length is + 1)))
    (cond (repeats_field (fields_read p.fields) i.statement || b) (Some (Duplicate (length is + 1))) None))
    (same_label (location_at p) (location_of (layout is)) i.label s.labels)
    ∙ ap (λ (n : ℕ). cond (is_misplaced_in kind (place_of p) i.statement) (Some (Section (n + 1)))
    (cond (repeats_field (fields_read p.fields) i.statement || repeats_label (location_at p) i.label)
    (Some (Duplicate (n + 1))) None))
    (sym s.line)))))

-- an instruction without a label is refused where it may not stand, in a source of either kind
pub refused_here-insn : (kind : SourceKind) (p : Pass) (insn : Form) (misplaced : Bool)
    → is_misplaced_insn (place_of p) insn ≡ misplaced
    → refused_here kind p (unlabelled insn) ≡ cond misplaced (Some (Section (p.line + 1))) None
refused_here-insn kinds.Program p insn misplaced h = rw h refl
refused_here-insn kinds.Module p insn misplaced h = rw h refl

-- a line that says nothing is refused nowhere
pub nothing_here : (kind : SourceKind) (p : Pass) → refused_here kind p nothing_said ≡ None
nothing_here kinds.Program p = refl
nothing_here kinds.Module p = refl

-- an item that is not refused has a new label
new_label : (kind : SourceKind) (p : Pass) (i : LineStmt) → refused_here kind p i ≡ None
    → repeats_label (location_at p) i.label ≡ false
new_label kind p i h =
    by (is_misplaced_in kind (place_of p) i.statement) (repeats_field (fields_read p.fields) i.statement)
    (repeats_label (location_at p) i.label) h
  where
    by : (a b c : Bool)
        → cond a (Some (Section (p.line + 1))) (cond (b || c) (Some (Duplicate (p.line + 1))) None) ≡ None → c ≡ false
    by a b false h = refl
    by true b true h = cc
    by false true true h = cc
    by false false true h = cc

placed_item : (kind : SourceKind) (p : Pass) (i : LineStmt) → refused_here kind p i ≡ None
    → is_misplaced (place_of p) i.statement ≡ false
placed_item kind p i h =
    either (is_barred kind i.statement) (is_misplaced (place_of p) i.statement)
    (by (is_misplaced_in kind (place_of p) i.statement)
    (repeats_field (fields_read p.fields) i.statement || repeats_label (location_at p) i.label) h)
  where
    either : (a b : Bool) → (a || b) ≡ false → b ≡ false
    either true b h = absurd cc
    either false b h = h

    by : (a b : Bool) → cond a (Some (Section (p.line + 1))) (cond b (Some (Duplicate (p.line + 1))) None) ≡ None
        → a ≡ false
    by false b h = refl
    by true b h = cc

pub PassSimulates-next_line : (kind : SourceKind) (is : List LineStmt) (line : List ℕ) (i : LineStmt) (old new : Pass)
    → PassSimulates is old → read line ≡ Ok i → refused_here kind old i ≡ None → AddsItem i old new
    → PassSimulates (is ++ item_at line ∷ []) new
PassSimulates-next_line kind is line i old new s e taken a =
    let at : item_at line ≡ i = rw e refl in
    rw at (PassSimulates-item is i old new s (placed_item kind old i taken) (new_label kind old i taken) a)

pub OnOk-both_to : {A E : Type 0} {P Q R : Type 0} (r : Result A E) → OnOk r P → OnOk r Q → (P → Q → R) → OnOk r R
OnOk-both_to (Ok x) p q f = f p q
OnOk-both_to (Err e) p q f = tt

pub IfErr-map : {A E : Type 0} {P Q : E → Type 0} (r : Result A E) → IfErr r P → ((e : E) → P e → Q e) → IfErr r Q
IfErr-map (Ok x) p f = tt
IfErr-map (Err e) p f = f e p
