-- A run with its journal that memory ran out for before it began.
use Rattle.std.proofs.Common.{◌≡◌, ◌∙◌, List, [], ℕ, Option, Some, IfSome, refl, sym, ap, subst}
use Rattle.std.specs.Io.KnownBytes.{Appends}
use Rattle.std.proofs.KnownBytes.{Appends-nil}
use Rattle.alpha_io.specs.Supply.{Supply}
use Rattle.alpha_io.specs.Files.{KeepsFiles}
use Rattle.alpha_io.specs.ShelfChange.{ShelfChange}
use Rattle.alpha_io.specs.SinkChange.{SinkChange, Puts}
use Rattle.alpha_seq.specs.Devices.{Drawn, Rests, Idles}
use Rattle.alpha_cmd.specs.declared.status.Status.TheVariants.{NoMemory}
use Rattle.alpha_cmd.specs.Answer.{Answer}
use Rattle.alpha_cmd.specs.AnswerBy.{World, status_answer}
use Rattle.alpha_cmd.specs.Ends.{Leaves}
use Rattle.alpha_cmd.specs.Status.{status_line}
use Rattle.alpha_cmd.proofs.CallEndings.{IsLeft-own}

-- a sink that wasn't called
idle_puts : (s : SinkChange) → Idles s → Puts s []
idle_puts s idle = record {
  written = subst (λ (l : Option (List ℕ)). Appends s.old l []) (sym idle.written) (Appends-nil s.old);
  same = idle.same;
}

-- a call without memory, which has touched no device
pub unbegun_tried : (P : Answer → Type 0) (w : World) (rest : Answer)
    (d : Drawn) (s : ShelfChange) (out notes : SinkChange)
    → P (status_answer w.input NoMemory (status_line NoMemory)) → KeepsFiles s.old s.new
    → d.old.left ≡ w.input → Rests d → Idles out → Idles notes
    → rest ≡ status_answer d.new.left NoMemory (status_line NoMemory) → Leaves P rest s out notes
unbegun_tried P w rest d s out notes is same told rests put noted e =
    let left : d.new.left ≡ w.input = ap (λ (s : Supply). s.left) rests.left ∙ told in
    subst (λ (x : Answer). Leaves P x s out notes) (sym e)
    (record {
      tried = status_answer w.input NoMemory (status_line NoMemory);
      is = is;
      status_is = refl;
      left_is =
          subst (λ (l : Option (List ℕ)). IfSome w.input (λ rest. l ≡ Some rest)) (sym left)
          (IsLeft-own (status_answer w.input NoMemory (status_line NoMemory)));
      files = same;
      output = [];
      put = idle_puts out put;
      output_is = refl;
      trace = [];
      noted = idle_puts notes noted;
      notes_are = refl;
    })
