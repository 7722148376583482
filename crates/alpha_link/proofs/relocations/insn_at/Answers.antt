use Rattle.std.proofs.Common.{◌≡◌, ℕ, nat_lt, List, length, map, get_or, slice_get, Option, Some, None, Bor, refl, sym}
use Rattle.std.proofs.Common.{ap, ◌∙◌, arith}
use Rattle.std.specs.Prelude.{is_some, IfSome}
use Rattle.std.specs.Option.{option_map, option_and_then, option_copied}
use Rattle.std.proofs.lemmas.Bool.{ltb-true, ltb-false}
use Rattle.std.proofs.lemmas.Option.{slice_get-map, slice_get_past, slice_get_read}
use Rattle.alpha_table.specs.declared.form.Form.{Form}
use Rattle.alpha_table.specs.Decoded.{decoded}
use Rattle.alpha_table.specs.Encoded.{encoded}
use Rattle.alpha_table.proofs.CodeWords.{decoded_there}
use Rattle.alpha_link.proofs.relocations.insn_at.Goals as goal

copied_is : (insns : List Form) (place : ℕ) (o : Option (Bor Form)) → is_some o ≡ nat_lt place (length insns)
    → IfSome o (λ x. x.now ≡ get_or insns place x.now) → option_copied o ≡ slice_get insns place
copied_is insns place (Some x) some is =
    sym (slice_get_read insns (length insns) place x.now refl (ltb-true place (length insns) (sym some)) is)
copied_is insns place None some is =
    sym (slice_get_past insns place (omega (arith, ltb-false place (length insns) (sym some))))

there : (insns : List Form) (place : ℕ) (o : Option Form) → map decoded (map encoded insns) ≡ map Some insns
    → slice_get insns place ≡ o → option_and_then decoded (slice_get (map encoded insns) place) ≡ o
there insns place (Some i) e at = decoded_there (map encoded insns) insns place i e at
there insns place None e at =
    ap (option_and_then decoded) (slice_get-map encoded insns place ∙ ap (option_map encoded) at)

pub returns : goal.returns
returns c =
    let insns = c.args.insns.now in
    c.copied.ensures
    ∙ (copied_is insns c.args.place c.get.result c.get.ensures.lookup.0 c.get.ensures.lookup.1
    ∙ sym (there insns c.args.place (slice_get insns c.args.place) c.requires refl))
