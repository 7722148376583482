-- What a line is to the barriers, by its kind.
use Rattle.std.proofs.Common.{◌≡◌, ℕ, List, [], ◌∷◌, map, Option, None, Some, Result, Ok, Err, Bool, true, false, not}
use Rattle.std.proofs.Common.{◌&&◌, ◌||◌, refl, ◌∙◌, ap}
use Rattle.std.specs.Prelude.{is_some}
use Rattle.std.specs.Result.{result_unwrap_or}
use Rattle.std.proofs.lemmas.Bool.{and_parts}
use Rattle.alpha_table.specs.declared.form.Form.{Form}
use Rattle.alpha_text.specs.declared.reader.LineFault.{LineFault}
use Rattle.alpha_text.specs.Reading.{LineStmt, read}
use Rattle.alpha_text.specs.Statements.{Stmt}
use Rattle.alpha_text.specs.Statements as says
use Rattle.alpha_asm.specs.declared.line_kind.LineKind.{LineKind}
use Rattle.alpha_asm.specs.declared.line_kind.LineKind.TheVariants as kinds
use Rattle.alpha_asm.specs.LineKinds.{insn_if, alone_if, code_kind, statement_kind, line_kind, kinds_of}
use Rattle.alpha_asm.specs.declared.statement.RelocField.TheVariants.{Branch}
use Rattle.alpha_asm.specs.Statement.{applies_to, half_applies, is_zero, Reference, to, coded, cells}
use Rattle.alpha_quick.specs.Parts.{unlabelled}
use Rattle.alpha_asm.specs.Patches.{raw_insns}
use Rattle.alpha_asm.specs.KnownLines.{IsKnown}
use Rattle.alpha_asm.specs.Assembled.{item_at}
use Rattle.alpha_asm.specs.declared.lines.Line.{Line}
use Rattle.alpha_fix.specs.declared.barriers.Role.TheVariants as roles
use Rattle.alpha_asm.specs.SourceLines.{SourceLine, source_lines, line_item}
use Rattle.alpha_fix.specs.FixedLines.{has_offset, depends_on_position}
use Rattle.alpha_asm.specs.SourceLines.{IsFirst}
use Rattle.alpha_fix.specs.Lines.{role}
use Rattle.alpha_fix.proofs.ValueOffsets.{none_in_text}

insn_if-Insn : (b : Bool) → insn_if b ≡ kinds.Insn → b ≡ true
insn_if-Insn true e = refl
insn_if-Insn false e = cc

insn_if-not_Insn : (b : Bool) → insn_if (not b) ≡ kinds.Insn → b ≡ false
insn_if-not_Insn true e = cc
insn_if-not_Insn false e = refl

never_other : (b : Bool) → insn_if b ≡ kinds.Other → ⊥
never_other true e = cc
never_other false e = cc

never_alone : (b : Bool) → insn_if b ≡ kinds.InsnAlone → ⊥
never_alone true e = cc
never_alone false e = cc

-- an instruction that names no address isn't a branch
code_kind-Insn : (labelled : Bool) (insn : Form) → code_kind labelled insn ≡ kinds.Insn → applies_to Branch insn ≡ false
code_kind-Insn true insn e = insn_if-not_Insn (applies_to Branch insn) e
code_kind-Insn false insn e = absurd (alone_if-not_Insn (not (applies_to Branch insn)) e)
  where
    alone_if-not_Insn : (b : Bool) → alone_if b ≡ kinds.Insn → ⊥
    alone_if-not_Insn true e = cc
    alone_if-not_Insn false e = cc

code_kind-InsnAlone : (insn : Form) → code_kind false insn ≡ kinds.InsnAlone → applies_to Branch insn ≡ false
code_kind-InsnAlone insn e = not_free (applies_to Branch insn) e
  where
    not_free : (b : Bool) → alone_if (not b) ≡ kinds.InsnAlone → b ≡ false
    not_free true e = cc
    not_free false e = refl

code_kind-never_other : (labelled : Bool) (insn : Form) → code_kind labelled insn ≡ kinds.Other → ⊥
code_kind-never_other true insn e = never_other (not (applies_to Branch insn)) e
code_kind-never_other false insn e = alone_if-never_other (not (applies_to Branch insn)) e
  where
    alone_if-never_other : (b : Bool) → alone_if b ≡ kinds.Other → ⊥
    alone_if-never_other true e = cc
    alone_if-never_other false e = cc

unless_not : (a b : Bool) → b ≡ true → (a && not b) ≡ false
unless_not true b e = rw e refl
unless_not false b e = refl

-- an instruction with half of an address that is none in its own way
half_applies-no_offset : (of_code : List ℕ → Bool) (insn : Form) (r : Reference)
    → (is_zero r.offset && half_applies insn) ≡ true
    → (has_offset of_code r ≡ false) × ((of_code r.label && not (half_applies insn)) ≡ false)
half_applies-no_offset of_code insn r e =
    let (nothing, good) = and_parts (is_zero r.offset) (half_applies insn) e in
    (unless_not (of_code r.label) (is_zero r.offset) nothing, unless_not (of_code r.label) (half_applies insn) good)

pub insn_role : (of_code : List ℕ → Bool) (base : ℕ) (labelled : Bool) (s : Stmt)
    → statement_kind labelled s ≡ kinds.Insn
    → roles.Insn ≡ role (depends_on_position of_code base s) (is_some (coded s))
unfolding cells
insn_role of_code base labelled (says.code insn) e = rw (code_kind-Insn labelled insn e) refl
insn_role of_code base labelled (says.target insn label offset) e =
    let none : has_offset of_code (to label offset) ≡ false =
    unless_not (of_code label) (is_zero offset) (insn_if-Insn (is_zero offset) e) in
    rw none refl
insn_role of_code base labelled (says.high insn label offset) e =
    let (none, good) = half_applies-no_offset of_code insn (to label offset) (insn_if-Insn _ e) in
    rw (none, good) refl
insn_role of_code base labelled (says.low insn label offset) e =
    let (none, good) = half_applies-no_offset of_code insn (to label offset) (insn_if-Insn _ e) in
    rw (none, good) refl
insn_role of_code base labelled _ e = cc

pub alone_role : (of_code : List ℕ → Bool) (base : ℕ) (labelled : Bool) (s : Stmt)
    → statement_kind labelled s ≡ kinds.InsnAlone
    → roles.Insn ≡ role (depends_on_position of_code base s) (is_some (coded s))
unfolding cells
alone_role of_code base true (says.code insn) e = absurd (never_alone (not (applies_to Branch insn)) e)
alone_role of_code base false (says.code insn) e = rw (code_kind-InsnAlone insn e) refl
alone_role of_code base labelled (says.target insn label offset) e = absurd (never_alone _ e)
alone_role of_code base labelled (says.high insn label offset) e = absurd (never_alone _ e)
alone_role of_code base labelled (says.low insn label offset) e = absurd (never_alone _ e)
alone_role of_code base labelled _ e = cc

-- an instruction alone is all that its item says
alone_item : (label : Option (List ℕ)) (s : Stmt) (first : Form) → statement_kind (is_some label) s ≡ kinds.InsnAlone
    → raw_insns s ≡ first ∷ [] → record { label = label; statement = s } ≡ unlabelled first
alone_item None (says.code insn) first e o = cc
alone_item (Some label) (says.code insn) first e o = absurd (never_alone (not (applies_to Branch insn)) e)
alone_item label (says.target insn name offset) first e o = absurd (never_alone _ e)
alone_item label (says.high insn name offset) first e o = absurd (never_alone _ e)
alone_item label (says.low insn name offset) first e o = absurd (never_alone _ e)
alone_item label _ first e o = cc

alone_read : (r : Result LineStmt LineFault) (first : Form)
    → line_kind (result_unwrap_or r (record { label = None; statement = says.empty })) ≡ kinds.InsnAlone
    → raw_insns (result_unwrap_or r (record { label = None; statement = says.empty })).statement ≡ first ∷ []
    → r ≡ Ok (unlabelled first)
alone_read (Ok i) first e o = ap Ok (alone_item i.label i.statement first e o)
alone_read (Err fault) first e o = cc

pub alone_line : (line : List ℕ) (first : Form) → line_kind (item_at line) ≡ kinds.InsnAlone
    → raw_insns (item_at line).statement ≡ first ∷ [] → IsKnown line first
alone_line line first e o = alone_read (read line) first e o

text_role : (of_code : List ℕ → Bool) (base : ℕ) (text : List ℕ)
    → roles.Other ≡ role (depends_on_position of_code base (says.text text)) (is_some (coded (says.text text)))
text_role of_code base text =
    ap (λ b. role (false || (b || (false || false))) false) (none_in_text (has_offset of_code) text)

pub other_role : (of_code : List ℕ → Bool) (base : ℕ) (labelled : Bool) (s : Stmt)
    → statement_kind labelled s ≡ kinds.Other
    → roles.Other ≡ role (depends_on_position of_code base s) (is_some (coded s))
unfolding cells
other_role of_code base labelled (says.code insn) e = absurd (code_kind-never_other labelled insn e)
other_role of_code base labelled (says.target insn label offset) e = absurd (never_other _ e)
other_role of_code base labelled (says.high insn label offset) e = absurd (never_other _ e)
other_role of_code base labelled (says.low insn label offset) e = absurd (never_other _ e)
other_role of_code base labelled (says.entry_at n) e = cc
other_role of_code base labelled (says.entry_label label offset) e = cc
other_role of_code base labelled (says.values bytes list) e = cc
other_role of_code base labelled (says.text text) e = text_role of_code base text
other_role of_code base labelled _ e = refl

-- the kinds from a line on
abbrev pub kinds_from : List SourceLine → List LineKind
kinds_from lines = kinds_of (map line_item lines)

pub kinds_from-first : (rest : List ℕ) (ks : List LineKind) (k : LineKind) (more : List LineKind) (l : Line)
    → IsFirst rest l
    → ks ≡ kinds_from (source_lines rest)
    → ((first : LineKind) (others : List LineKind) → ks ≡ first ∷ others → (k ≡ first) × (more ≡ others))
    → (k ≡ line_kind (item_at l.text.now)) × (more ≡ kinds_from (source_lines l.rest.now))
kinds_from-first rest ks k more l f e cut =
    let (one, others) =
    cut (line_kind (line_item f.line)) (kinds_from (source_lines l.rest.now)) (e ∙ ap kinds_from f.lines) in
    (one ∙ ap (λ (t : List ℕ). line_kind (item_at t)) f.is.text, others)
