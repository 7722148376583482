use Rattle.std.proofs.Common.{map, refl, ap, ◌∙◌, sym}
use Rattle.std.specs.Option.{option_map}
use Rattle.alpha_asm.specs.Layout.{first}
use Rattle.alpha_asm.specs.Program.{undefined_line, out_of_range_line}
use Rattle.alpha_asm.specs.Patches.{entry_view, fix_of, names_of, code_after, bytes_after}
use Rattle.alpha_asm.specs.declared.fault.AsmFault.TheVariants as faults
use Rattle.alpha_asm.proofs.FinishedProgram.{known_with, known_addresses-so, undefined_line-first}
use Rattle.alpha_asm.proofs.FinishedProgram.{PassSimulates-Finishes, Sound-IsWhole}
use Rattle.alpha_asm.proofs.program.finish.Goals as goal

pub returns-clause-undefined : goal.returns-clause-undefined
returns-clause-undefined c = λ other is s.
    let k = known_with c.unwrap_or.result c.deref.result.now c.args.pass in
    let e = known_addresses-so is c.args.pass c.unwrap_or-base.result c.unwrap_or.result c.deref.result.now s
    c.unwrap_or-base.ensures c.unwrap_or.ensures (c.deref.ensures.value ∙ c.in_ok-segments.ensures) in
    ap (option_map faults.Undefined)
    (undefined_line-first is c.args.pass k s e
    ∙ ap (λ l. first (undefined_line k) (names_of l)) (sym c.deref-2.ensures.value))
    ∙ c.in-Err.ensures.undefined

pub returns-in-Ok-clause-whole : goal.returns-in-Ok-clause-whole
returns-in-Ok-clause-whole c =
    let k = known_with c.unwrap_or.result c.deref.result.now c.args.pass in
    Sound-IsWhole c.args.pass
    (entry_view c.args.entry.now) k c.unwrap_or-base.result _ c.requires.sound c.requires.leveled
    (c.in-Ok.ensures.code ∙ ap (λ l. code_after k (map fix_of l) c.args.pass.output.code.items) c.deref-2.ensures.value)
    (λ few.
    c.in-Ok.ensures.bytes
    ∙ (ap (λ l. bytes_after k (map fix_of l) c.in_ok-bytes.bytes.items) c.deref-2.ensures.value
    ∙ ap (bytes_after k (map fix_of c.args.pass.output.patches.items)) (c.in_ok-bytes.ensures.value few)))
    refl c.fields_of-fields.ensures c.in_ok-segments.ensures

pub returns-in-Ok-clause-ok : goal.returns-in-Ok-clause-ok
returns-in-Ok-clause-ok c = λ is s.
    let k = known_with c.unwrap_or.result c.deref.result.now c.args.pass in
    let e = known_addresses-so is c.args.pass c.unwrap_or-base.result c.unwrap_or.result c.deref.result.now s
    c.unwrap_or-base.ensures c.unwrap_or.ensures (c.deref.ensures.value ∙ c.in_ok-segments.ensures) in
    PassSimulates-Finishes is c.args.pass (entry_view c.args.entry.now) k c.unwrap_or-base.result _ s e
    (ap (λ l. first (undefined_line k) (names_of l)) (sym c.deref-2.ensures.value) ∙ c.in-Ok.ensures.defined)
    (c.in-Ok.ensures.out_of_range ∙ ap (λ l. first (out_of_range_line k) (names_of l)) c.deref-2.ensures.value)
    (c.in-Ok.ensures.code ∙ ap (λ l. code_after k (map fix_of l) c.args.pass.output.code.items) c.deref-2.ensures.value)
    (λ few.
    c.in-Ok.ensures.bytes
    ∙ (ap (λ l. bytes_after k (map fix_of l) c.in_ok-bytes.bytes.items) c.deref-2.ensures.value
    ∙ ap (bytes_after k (map fix_of c.args.pass.output.patches.items)) (c.in_ok-bytes.ensures.value few)))
    refl c.fields_of-fields.ensures (sym c.deref.ensures.value) c.in_ok-segments.ensures
