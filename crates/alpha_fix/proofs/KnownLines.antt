-- What is known of the lines of a source with barriers.
use Rattle.std.proofs.Common.{◌≡◌, ◌++◌, ◌∷◌, ℕ, List, [], map, length, Bool, true, false, Option, None, Some, IfSome}
use Rattle.std.proofs.Common.{Ok}
use Rattle.std.proofs.Common.{codes, refl, sym, ◌∙◌, ap, subst, append_assoc, arith}
use Rattle.std.proofs.lemmas.List.{append-nil}
use Rattle.std.specs.Prelude.{is_some}
use Rattle.std.specs.Option.{option_map_or}
use Rattle.std.specs.List.{flat_map}
use Rattle.std.specs.Str.Lines.{lines}
use Rattle.alpha_table.specs.declared.form.Form.{Form}
use Rattle.alpha_table.specs.declared.form.Form.TheVariants.{Misc}
use Rattle.alpha_table.specs.declared.rows.MiscOp.TheVariants.{Trapb}
use Rattle.alpha_quick.specs.Parts.{unlabelled}
use Rattle.alpha_asm.specs.KnownLines.{IsKnown, AreKnown}
use Rattle.alpha_asm.specs.declared.lines.Line.{Line}
use Rattle.alpha_asm.specs.declared.line_kind.LineKind.{LineKind}
use Rattle.alpha_asm.specs.declared.line_kind.LineKind.TheVariants.{InsnAlone}
use Rattle.alpha_asm.specs.LineKinds.{line_kind}
use Rattle.alpha_asm.specs.Statement.{InsnStmt, coded}
use Rattle.alpha_asm.specs.Patches.{raw_insns, insns_of}
use Rattle.alpha_asm.specs.Assembled.{item_at}
use Rattle.alpha_asm.specs.SourceLines.{SourceLine, ended, unended, line_bytes, line_text, line_item, is_ended}
use Rattle.alpha_asm.specs.SourceLines.{source_lines, IsFirst}
use Rattle.alpha_asm.proofs.SourceLines.{lines-source_lines, source_lines-line_bytes, source_lines-AreLines}
use Rattle.alpha_fix.specs.FixedSource.{is_cut, has_insn, trapb_line, word_count, bar_if, then_bar, fixed_lines}
use Rattle.alpha_fix.specs.FixedSource.{fixed_source}
use Rattle.alpha_fix.specs.Lines.{known_behind}
use Rattle.alpha_fix.proofs.FixedItems.{fixed_lines-AreLines, items_by_lines}
use Rattle.alpha_fix.proofs.LineRoles.{alone_line}
use Rattle.alpha_fix.proofs.SourcePrograms.{read_trapb}

-- what is known of lines that are left to be put down goes on what is known of those before
abbrev pub IsTextKnownSoFar : List (Option Form) → List SourceLine → List SourceLine → Type 0
IsTextKnownSoFar known left all =
    (more : List (Option Form)) → AreKnown more (map line_text left) → AreKnown (known ++ more) (map line_text all)

module _ (bar insn : Option Form) (line : SourceLine) (more : List (Option Form)) (left : List SourceLine)
    (barrier : IfSome bar (IsKnown (codes "trapb"))) (here : IfSome insn (IsKnown (line_text line)))
    (behind : AreKnown more (map line_text left)) where
  line_known : (x : SourceLine) (b : Bool) → line ≡ x → is_ended x ≡ b → (after : Bool)
      → AreKnown (known_behind bar after b insn ++ more) (map line_text (then_bar after x ++ left))
  line_known (ended t) true e f true =
      (subst (λ (y : SourceLine). IfSome insn (IsKnown (line_text y))) e here, (barrier, behind))
  line_known (ended t) false e f after = cc
  line_known (unended t) true e f after = cc
  line_known (unended t) false e f true = (tt, (barrier, behind))
  line_known x b e f false = (subst (λ (y : SourceLine). IfSome insn (IsKnown (line_text y))) e here, behind)

  pub put_known : (before after b : Bool) → is_ended line ≡ b
      → AreKnown (bar_if before bar ++ (known_behind bar after b insn ++ more))
      (map line_text (bar_if before trapb_line ++ (then_bar after line ++ left)))
  put_known true after b f = (barrier, line_known line b refl f after)
  put_known false after b f = line_known line b refl f after

pub IsTextKnownSoFar-next : (bar insn : Option Form) (line : SourceLine) (old new : List (Option Form))
    (left rest all : List SourceLine) (before after b : Bool)
    → IfSome bar (IsKnown (codes "trapb")) → IfSome insn (IsKnown (line_text line)) → is_ended line ≡ b
    → left ≡ bar_if before trapb_line ++ (then_bar after line ++ rest)
    → new ≡ old ++ (bar_if before bar ++ known_behind bar after b insn)
    → IsTextKnownSoFar old left all → IsTextKnownSoFar new rest all
IsTextKnownSoFar-next bar insn line old new left rest all before after b barrier here f e pushed so_far more a =
    let ks : List (Option Form) = bar_if before bar in
    let js : List (Option Form) = known_behind bar after b insn in
    subst (λ (k : List (Option Form)). AreKnown k (map line_text all))
    (sym
    (ap (λ k. k ++ more) pushed ∙ (append_assoc old (ks ++ js) more ∙ ap (λ k. old ++ k) (append_assoc ks js more))))
    (so_far (ks ++ (js ++ more))
    (subst (λ (ls : List SourceLine). AreKnown (ks ++ (js ++ more)) (map line_text ls)) (sym e)
    (put_known bar insn line more rest barrier here a before after b f)))

pub known_text : (source cuts text : List ℕ) (known : List (Option Form)) → text ≡ fixed_source source cuts
    → IsTextKnownSoFar known [] (fixed_lines (is_cut cuts) (word_count source) 0 (source_lines source))
    → AreKnown known (lines text)
unfolding fixed_source
known_text source cuts text known e so_far =
    let ls : List SourceLine = fixed_lines (is_cut cuts) (word_count source) 0 (source_lines source) in
    let same : lines text ≡ map line_text ls =
    ap lines e ∙ (lines-source_lines (flat_map line_bytes ls)
    ∙ ap (map line_text) (source_lines-line_bytes ls
    (fixed_lines-AreLines (is_cut cuts) (word_count source) 0 (source_lines source) (source_lines-AreLines source)))) in
    subst (AreKnown known) (sym same)
    (subst (λ (k : List (Option Form)). AreKnown k (map line_text ls)) (append-nil known) (so_far [] tt))

-- the instructions from a line on
abbrev pub insns_from : List SourceLine → List Form
insns_from lines = insns_of (map line_item lines)

one_insn : (c : Option InsnStmt) → is_some c ≡ true
    → (first : Form) × (option_map_or (λ (i : InsnStmt). i.insn ∷ []) c [] ≡ first ∷ [])
one_insn (Some i) e = (i.insn, refl)
one_insn None e = cc

no_insn : (c : Option InsnStmt) → is_some c ≡ false → option_map_or (λ (i : InsnStmt). i.insn ∷ []) c [] ≡ []
no_insn (Some i) e = cc
no_insn None e = refl

module _ (rest : List ℕ) (l : Line) (code : List Form) (f : IsFirst rest l)
    (all : code ≡ insns_from (source_lines rest)) where
  code_here : code ≡ raw_insns (item_at l.text.now).statement ++ insns_from (source_lines l.rest.now)
  code_here =
      all ∙ (ap insns_from f.lines
      ∙ ap (λ (t : List ℕ). raw_insns (item_at t).statement ++ insns_from (source_lines l.rest.now)) f.is.text)

  -- a line with an instruction takes the first of them, and says it alone if it is of this kind
  pub insn_known : (more : List Form) (insn : Option Form) (kind : LineKind)
      → kind ≡ line_kind (item_at l.text.now) → has_insn (item_at l.text.now) ≡ true
      → ((first : Form) (others : List Form) → code ≡ first ∷ others
      → IfSome insn (λ i. (i ≡ first) × (kind ≡ InsnAlone)) × (more ≡ others))
      → IfSome insn (IsKnown (line_text f.line)) × (more ≡ insns_from (source_lines l.rest.now))
  insn_known more insn kind k has cut =
      let (first, one) = one_insn (coded (item_at l.text.now).statement) has in
      let (said, others) =
      cut first (insns_from (source_lines l.rest.now))
      (code_here ∙ ap (λ ks. ks ++ insns_from (source_lines l.rest.now)) one) in
      (known insn first one said, others)
    where
      known : (i : Option Form) (first : Form) → raw_insns (item_at l.text.now).statement ≡ first ∷ []
          → IfSome i (λ x. (x ≡ first) × (kind ≡ InsnAlone)) → IfSome i (IsKnown (line_text f.line))
      known None first one said = tt
      known (Some i) first one (same, alone) =
          subst (λ (t : List ℕ). IsKnown t i) (sym f.is.text)
          (subst (IsKnown l.text.now) (sym same) (alone_line l.text.now first (sym k ∙ alone) one))

  -- and another line none
  pub code_same : has_insn (item_at l.text.now) ≡ false → code ≡ insns_from (source_lines l.rest.now)
  code_same none =
      code_here
      ∙ ap (λ ks. ks ++ insns_from (source_lines l.rest.now)) (no_insn (coded (item_at l.text.now).statement) none)

pub code_start : (source symbols : List ℕ) (code : List Form) → symbols ≡ source
    → code ≡ insns_of (map item_at (lines symbols)) → code ≡ insns_from (source_lines source)
code_start source symbols code e all =
    all ∙ (ap (λ (t : List ℕ). insns_of (map item_at (lines t))) e ∙ ap insns_of (items_by_lines source))

pub known_whole : (source cuts text rest : List ℕ) (known : List (Option Form)) (words place : ℕ)
    → words ≡ word_count source → length rest ≡ 0 → text ≡ fixed_source source cuts
    → IsTextKnownSoFar known (fixed_lines (is_cut cuts) words place (source_lines rest))
    (fixed_lines (is_cut cuts) words 0 (source_lines source))
    → AreKnown known (lines text)
known_whole source cuts text rest known words place w none e so_far =
    known_text source cuts text known e
    (subst (λ (n : ℕ). IsTextKnownSoFar known [] (fixed_lines (is_cut cuts) n 0 (source_lines source))) w
    (subst (λ (r : List ℕ). IsTextKnownSoFar known (fixed_lines (is_cut cuts) words place (source_lines r))
    (fixed_lines (is_cut cuts) words 0 (source_lines source))) (is_empty rest none) so_far))
  where
    is_empty : (xs : List ℕ) → length xs ≡ 0 → xs ≡ []
    is_empty [] h = refl
    is_empty (x ∷ xs) h = absurd (omega arith)

pub known_barrier : (bar : Option Form) → IfSome bar (λ i. i ≡ Misc Trapb) → IfSome bar (IsKnown (codes "trapb"))
known_barrier None e = tt
known_barrier (Some i) e = read_trapb ∙ ap (λ f. Ok (unlabelled f)) (sym e)
