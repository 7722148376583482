-- What is left of an input.
use Rattle.std.proofs.Common.{◌≡◌, ◌∙◌, [], refl, sym, arith}
use Rattle.alpha_seq.specs.Devices.{Drawn}
use Rattle.alpha_cmd.specs.OfImage.Debug.{LeavesOfScript}

-- an input that wasn't touched
pub untouched_input : (d : Drawn) → d.new.left ≡ d.old.left → LeavesOfScript d
untouched_input d same = (
  λ bytes tells. ([], bytes, refl, same ∙ tells),
  λ bytes rest tells left.
      let all : bytes ≡ rest = (let e = sym tells ∙ (sym same ∙ left) in cc) in
      rw all (omega arith),
)
