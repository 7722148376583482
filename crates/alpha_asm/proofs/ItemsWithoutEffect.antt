-- A line without a statement, or with an instruction, leaves alone what other statements change.
use Rattle.std.proofs.Common.{◌≡◌, ℕ, ◌+◌, [], ◌∷◌, ◌++◌, length, map, Bool, true, false, cond, ◌||◌, None, Some}
use Rattle.std.proofs.Common.{is_some, refl, sym, ◌∙◌, ap, length-append, arith}
use Rattle.std.proofs.lemmas.List.{append-nil}
use Rattle.std.proofs.Math.Bool.{or-false}
use Rattle.alpha_text.specs.Statements.{Stmt}
use Rattle.alpha_text.specs.Statements as says
use Rattle.alpha_text.specs.Reading.{LineStmt}
use Rattle.alpha_asm.specs.declared.pass.Pass.{Pass}
use Rattle.alpha_asm.specs.Statement.{InsnStmt, coded, cells, section_in, level_in, segment_in, zero_bytes_in, align_in}
use Rattle.alpha_asm.specs.Statement.{is_statement, code_base_in, data_base_in, stack_in, entry_in}
use Rattle.alpha_asm.specs.Layout.{Place, Fields, place_after, filled_pad, with_fields}
use Rattle.alpha_asm.specs.Patches.{fix_of, raw_bytes}
use Rattle.alpha_asm.specs.Place.{place_of_code}
use Rattle.alpha_asm.specs.Pass.{place_of, fields_read, here, AddsInsn, AddsStatement}
use Rattle.alpha_asm.proofs.NextItem.{or_none-identity}

-- a statement asks for an instruction at most
record IsPlain (s : Stmt) : Type 0 where
  no_cells : cells s ≡ []
  no_section : section_in s ≡ None
  no_level : level_in s ≡ None
  no_segment : segment_in s ≡ None
  no_zeroed : zero_bytes_in s ≡ None
  no_align : align_in s ≡ None
  no_code_base : code_base_in s ≡ None
  no_data_base : data_base_in s ≡ None
  no_stack : stack_in s ≡ None
  no_entry : entry_in s ≡ None

plain_insn : (s : Stmt) (c : InsnStmt) → coded s ≡ Some c → IsPlain s × (is_statement s ≡ true)
unfolding cells
plain_insn (says.code insn) c e = (
  record {
    no_cells = refl;
    no_section = refl;
    no_level = refl;
    no_segment = refl;
    no_zeroed = refl;
    no_align = refl;
    no_code_base = refl;
    no_data_base = refl;
    no_stack = refl;
    no_entry = refl;
  },
  refl,
)
plain_insn (says.target insn label offset) c e = (
  record {
    no_cells = refl;
    no_section = refl;
    no_level = refl;
    no_segment = refl;
    no_zeroed = refl;
    no_align = refl;
    no_code_base = refl;
    no_data_base = refl;
    no_stack = refl;
    no_entry = refl;
  },
  refl,
)
plain_insn (says.high insn label offset) c e = (
  record {
    no_cells = refl;
    no_section = refl;
    no_level = refl;
    no_segment = refl;
    no_zeroed = refl;
    no_align = refl;
    no_code_base = refl;
    no_data_base = refl;
    no_stack = refl;
    no_entry = refl;
  },
  refl,
)
plain_insn (says.low insn label offset) c e = (
  record {
    no_cells = refl;
    no_section = refl;
    no_level = refl;
    no_segment = refl;
    no_zeroed = refl;
    no_align = refl;
    no_code_base = refl;
    no_data_base = refl;
    no_stack = refl;
    no_entry = refl;
  },
  refl,
)
plain_insn _ c e = cc

plain_nothing : (s : Stmt) → is_statement s ≡ false → IsPlain s × (coded s ≡ None)
unfolding cells
plain_nothing says.empty e = (
  record {
    no_cells = refl;
    no_section = refl;
    no_level = refl;
    no_segment = refl;
    no_zeroed = refl;
    no_align = refl;
    no_code_base = refl;
    no_data_base = refl;
    no_stack = refl;
    no_entry = refl;
  },
  refl,
)
plain_nothing _ e = cc

or_true : (b : Bool) → (b || true) ≡ true
or_true true = refl
or_true false = refl

no_pad : (p : Place) (s : Stmt) → IsPlain s → filled_pad p s ≡ 0
no_pad p s a = rw a.no_align (zero_both p.has_zero)
  where
    zero_both : (b : Bool) → cond {A = ℕ} b 0 0 ≡ 0
    zero_both true = refl
    zero_both false = refl

behind_plain : (p : Place) (s : Stmt) → IsPlain s
    → place_after p s ≡ record p { begun = p.begun || is_statement s; words = p.words + cond (is_some (coded s)) 1 0 }
behind_plain p s a =
    rw (a.no_cells, a.no_section, a.no_level, a.no_segment, a.no_zeroed, a.no_align, or-false p.has_zero)
    (by p.has_zero)
  where
    plus : (n : ℕ) (b : Bool) → n + (0 + cond {A = ℕ} b 0 0) ≡ n
    plus n true = omega arith
    plus n false = omega arith

    by : (b : Bool) → record p {
      begun = p.begun || is_statement s;
      words = p.words + cond (is_some (coded s)) 1 0;
      last = record {
        base = p.last.base;
        filled = p.last.filled + (0 + cond {A = ℕ} b 0 0);
        zeroed = p.last.zeroed + (0 + cond {A = ℕ} b 0 0);
      };
    }
        ≡ record p { begun = p.begun || is_statement s; words = p.words + cond (is_some (coded s)) 1 0 }
    by b = rw (plus p.last.filled b, plus p.last.zeroed b) refl

behind_insn : (p : Place) (s : Stmt) (c : InsnStmt) → coded s ≡ Some c
    → record p { begun = true; words = p.words + 1 } ≡ place_after p s
behind_insn p s c e =
    let (a, stands) = plain_insn s c e in
    sym (behind_plain p s a ∙ rw (e, stands, or_true p.begun) refl)

behind_nothing : (p : Place) (s : Stmt) → is_statement s ≡ false → p ≡ place_after p s
behind_nothing p s e =
    let (a, none) = plain_nothing s e in
    let z : p.words + 0 ≡ p.words = omega arith in
    sym (behind_plain p s a ∙ rw (e, none, or-false p.begun, z) refl)

same_fields : (f : Fields) (s : Stmt) → IsPlain s → f ≡ with_fields f s
same_fields f s a =
    rw (a.no_code_base, a.no_data_base, a.no_stack, a.no_entry)
    (rw (or_none-identity f.code_base, or_none-identity f.data_base, or_none-identity f.stack, or_none-identity f.entry)
    refl)

same_bytes : (old : Pass) (i : LineStmt) → IsPlain i.statement
    → old.output.bytes.items ≡ old.output.bytes.items ++ raw_bytes (here old i)
same_bytes old i a = rw (a.no_cells, no_pad (place_of old) i.statement a) (sym (append-nil old.output.bytes.items))

pub adds_insn : (i : LineStmt) (c : InsnStmt) (old new : Pass) → Some c ≡ coded i.statement → AddsInsn c old new
    → AddsStatement i old new
adds_insn i c old new said a =
    let e : coded i.statement ≡ Some c = sym said in
    let plain : IsPlain i.statement = (plain_insn i.statement c e).0 in
    let size : length new.output.code.items ≡ length old.output.code.items + 1 =
    ap length a.code ∙ length-append old.output.code.items (c.insn ∷ []) in
    record {
      line = a.line;
      place =
          ap (λ q. place_of_code (length new.output.code.items) q) a.place
          ∙ (ap (λ n. place_of_code n (record old.place { begun = true })) size
          ∙ behind_insn (place_of old) i.statement c e);
      code = a.code ∙ rw e refl;
      bytes = ap (λ v. v.items) a.bytes ∙ same_bytes old i plain;
      patches =
          a.patches
          ∙ rw (e, plain.no_cells, plain.no_entry)
          (ap (λ l. map fix_of old.output.patches.items ++ l) (sym (append-nil _)));
      fields = ap fields_read a.fields ∙ same_fields (fields_read old.fields) i.statement plain;
    }

pub adds_nothing : (i : LineStmt) (old new : Pass) → is_statement i.statement ≡ false
    → new ≡ record old { line = old.line + 1 } → AddsStatement i old new
adds_nothing i old new e same =
    let (plain, none) = plain_nothing i.statement e in
    rw same (record {
      line = refl;
      place = behind_nothing (place_of old) i.statement e;
      code = rw none (sym (append-nil old.output.code.items));
      bytes = same_bytes old i plain;
      patches = rw (none, plain.no_cells, plain.no_entry) (sym (append-nil (map fix_of old.output.patches.items)));
      fields = same_fields (fields_read old.fields) i.statement plain;
    })
