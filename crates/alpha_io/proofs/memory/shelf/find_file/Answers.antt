use Rattle.std.proofs.Common.{Some, option_map, ap, sym, ◌∙◌}
use Rattle.std.specs.Option.{option_copied}
use Rattle.alpha_io.proofs.FileMaps.{get-file_map}
use Rattle.alpha_io.proofs.memory.shelf.find_file.Goals as goal

pub returns : goal.returns
returns c =
    ap Some c.as_slice.ensures.value ∙ ap (option_map (λ v. v.items)) c.in_ok-get.ensures.value
    ∙ sym (get-file_map c.args.files.now c.args.name.now)

pub returns-in_err-get : goal.returns-in_err-get
returns-in_err-get c =
    ap option_copied c.from_residual.ensures ∙ ap (option_map (λ v. v.items)) c.in_err-get.ensures.value
    ∙ sym (get-file_map c.args.files.now c.args.name.now)
