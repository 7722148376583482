-- The pass underway: the lines behind it and those before it are those of the source.
use Rattle.std.proofs.Common.{◌≡◌, ℕ, ◌+◌, ◌<◌, ◌≤◌, List, [], ◌∷◌, ◌++◌, length, map, None, Some, refl, sym, ◌∙◌, ap}
use Rattle.std.proofs.Common.{append_assoc, arith}
use Rattle.std.specs.Option.{option_or}
use Rattle.std.specs.Str.Lines.{lines}
use Rattle.std.proofs.lemmas.List.{append-nil}
use Rattle.alpha_text.specs.Reading.{LineStmt}
use Rattle.alpha_asm.specs.declared.fault.AsmFault.{AsmFault}
use Rattle.alpha_asm.specs.declared.kind.SourceKind.{SourceKind}
use Rattle.alpha_asm.specs.declared.pass.Pass.{Pass}
use Rattle.alpha_asm.specs.declared.line_kind.LineKind.{LineKind}
use Rattle.alpha_asm.specs.LineKinds.{line_kind, kinds_of}
use Rattle.alpha_asm.specs.Assembled.{item_at, refused, first_refused}
use Rattle.alpha_asm.specs.Pass.{IsBounded, PassSimulates}

pub record PassUnderway (kind : SourceKind) (source rest : List ℕ) (p : Pass) : Type 0 where
  -- those of the lines so far
  pub items : List LineStmt
  pub stands : PassSimulates items p
  pub refusals : first_refused kind items (lines rest) ≡ first_refused kind [] (lines source)
  pub all : items ++ map item_at (lines rest) ≡ map item_at (lines source)
  pub bounded : IsBounded p
  pub count : p.line + length rest ≤ length source

pub PassUnderway-start : (kind : SourceKind) (source : List ℕ) (p : Pass) → PassSimulates [] p → IsBounded p
    → p.line ≡ 0
    → PassUnderway kind source source p
PassUnderway-start kind source p s b e =
    record { items = []; stands = s; refusals = refl; all = refl; bounded = b; count = omega arith }

pub PassUnderway-next_line : (kind : SourceKind) (source rest line more : List ℕ) (old new : Pass)
    → PassUnderway kind source rest old → lines rest ≡ line ∷ lines more → length more < length rest
    → ((is : List LineStmt) → PassSimulates is old → refused kind is line ≡ None)
    → ((is : List LineStmt) → PassSimulates is old → PassSimulates (is ++ item_at line ∷ []) new)
    → IsBounded new → new.line ≡ old.line + 1 → PassUnderway kind source more new
PassUnderway-next_line kind source rest line more old new u e l taken stands bounded count =
    let c : old.line + length rest ≤ length source = u.count in
    record {
      items = u.items ++ item_at line ∷ [];
      stands = stands u.items u.stands;
      refusals =
          sym (ap (first_refused kind u.items) e ∙ ap
          (λ o. option_or o (first_refused kind (u.items ++ item_at line ∷ []) (lines more))) (taken u.items u.stands))
          ∙ u.refusals;
      all =
          append_assoc u.items (item_at line ∷ []) (map item_at (lines more))
          ∙ (ap (λ ls. u.items ++ map item_at ls) (sym e) ∙ u.all);
      bounded = bounded;
      count = omega arith;
    }

pub PassUnderway-refused : (kind : SourceKind) (source rest line more : List ℕ) (old : Pass) (fault : AsmFault)
    → PassUnderway kind source rest old → lines rest ≡ line ∷ lines more
    → ((is : List LineStmt) → PassSimulates is old → refused kind is line ≡ Some fault)
    → first_refused kind [] (lines source) ≡ Some fault
PassUnderway-refused kind source rest line more old fault u e why =
    sym u.refusals
    ∙ (ap (first_refused kind u.items) e
    ∙ ap (λ o. option_or o (first_refused kind (u.items ++ item_at line ∷ []) (lines more))) (why u.items u.stands))

empty-from_length : {A : Type 0} (xs : List A) → length xs ≡ 0 → xs ≡ []
empty-from_length [] h = refl
empty-from_length (x ∷ xs) h = absurd (omega arith)

pub PassUnderway-end_simulates : (kind : SourceKind) (source rest : List ℕ) (p : Pass) → PassUnderway kind source rest p
    → length rest ≡ 0
    → PassSimulates (map item_at (lines source)) p
PassUnderway-end_simulates kind source rest p u h =
    let e : rest ≡ [] = empty-from_length rest h in
    let all : u.items ≡ map item_at (lines source) =
    sym (append-nil u.items) ∙ (ap (λ r. u.items ++ map item_at (lines r)) (sym e) ∙ u.all) in
    rw (← all) u.stands

pub PassUnderway-end_unrefused : (kind : SourceKind) (source rest : List ℕ) (p : Pass) → PassUnderway kind source rest p
    → length rest ≡ 0
    → first_refused kind [] (lines source) ≡ None
PassUnderway-end_unrefused kind source rest p u h =
    let e : rest ≡ [] = empty-from_length rest h in
    sym u.refusals ∙ ap (λ r. first_refused kind u.items (lines r)) e

-- the kinds of the lines so far
abbrev pub kinds_in : List ℕ → List LineKind
kinds_in source = kinds_of (map item_at (lines source))

pub kinds_go_on : (first old new : List LineKind) (source rest line more : List ℕ) → lines rest ≡ line ∷ lines more
    → new ≡ old ++ line_kind (item_at line) ∷ []
    → old ++ kinds_in rest ≡ first ++ kinds_in source → new ++ kinds_in more ≡ first ++ kinds_in source
kinds_go_on first old new source rest line more e pushed all =
    ap (λ ks. ks ++ kinds_in more) pushed
    ∙ append_assoc old (line_kind (item_at line) ∷ []) (kinds_in more)
    ∙ sym (ap (λ ls. old ++ kinds_of (map item_at ls)) e) ∙ all

pub kinds_end : (first old : List LineKind) (source rest : List ℕ) → length rest ≡ 0
    → old ++ kinds_in rest ≡ first ++ kinds_in source → old ≡ first ++ kinds_in source
kinds_end first old source rest h all =
    sym (append-nil old) ∙ (ap (λ r. old ++ kinds_in r) (sym (empty-from_length rest h)) ∙ all)
