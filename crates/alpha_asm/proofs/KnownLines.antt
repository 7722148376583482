-- Lines of a program, by their items.
use Rattle.std.proofs.Common.{◌≡◌, ◌≢◌, ◌≤◌, ◌++◌, ◌∷◌, ℕ, List, [], length, None, Some, Result, Ok, Err, OnOk}
use Rattle.std.proofs.Common.{IfErr, ◌∙◌}
use Rattle.alpha_text.specs.Reading.{LineStmt, read}
use Rattle.alpha_asm.specs.declared.fault.AsmFault.{AsmFault}
use Rattle.alpha_asm.specs.declared.fault.AsmFault.TheVariants as faults
use Rattle.alpha_asm.specs.declared.kind.SourceKind.{SourceKind}
use Rattle.alpha_asm.specs.declared.kind.SourceKind.TheVariants.{Program}
use Rattle.alpha_asm.specs.declared.pass.Pass.{Pass}
use Rattle.alpha_asm.specs.Assembled.{item_at, refused}
use Rattle.alpha_asm.specs.Pass.{refused_here, AddsItem, PassSimulates}
use Rattle.alpha_asm.proofs.LineRefusals.{item_line, PassSimulates-next_line}

-- a line that is read as an item of a program is taken as that is
module _ {E : Type 0} (line : List ℕ) (i : LineStmt) (here : read line ≡ Ok i) (old new : Pass) where
  pub ok_read : (r : Result E AsmFault) → OnOk r (AddsItem i old new) → OnOk r (refused_here Program old i ≡ None)
      → OnOk r ((is : List LineStmt) → PassSimulates is old → PassSimulates (is ++ item_at line ∷ []) new)
  ok_read (Ok x) adds taken = λ is s. PassSimulates-next_line Program is line i old new s here taken adds
  ok_read (Err e) adds taken = tt

  pub taken_read : (r : Result E AsmFault) → length line ≤ 1024 → OnOk r (refused_here Program old i ≡ None)
      → OnOk r ((is : List LineStmt) → PassSimulates is old → refused Program is line ≡ None)
  taken_read (Ok x) short taken = λ is s. item_line Program is line i old s short here ∙ taken
  taken_read (Err e) short taken = tt

  pub refused_read : (r : Result E AsmFault) → length line ≤ 1024
      → IfErr r (λ fault. fault ≢ faults.NoMemory → refused_here Program old i ≡ Some fault)
      → IfErr r (λ fault. fault ≢ faults.NoMemory
      → (is : List LineStmt) → PassSimulates is old → refused Program is line ≡ Some fault)
  refused_read (Ok x) short why = tt
  refused_read (Err e) short why = λ other is s. item_line Program is line i old s short here ∙ why other

  -- of a source of any kind, and so of a program
  pub ok_of_program : (r : Result E AsmFault) → OnOk r ((kind : SourceKind) → refused_here kind old i ≡ None)
      → OnOk r (refused_here Program old i ≡ None)
  ok_of_program (Ok x) taken = taken Program
  ok_of_program (Err e) taken = tt

  pub err_of_program : (r : Result E AsmFault)
      → IfErr r (λ fault. fault ≢ faults.NoMemory → (kind : SourceKind) → refused_here kind old i ≡ Some fault)
      → IfErr r (λ fault. fault ≢ faults.NoMemory → refused_here Program old i ≡ Some fault)
  err_of_program (Ok x) why = tt
  err_of_program (Err e) why = λ other. why other Program
