use Rattle.std.proofs.Common.{◌++◌, map, ap, ◌∙◌}
use Rattle.std.specs.Str.Lines.{lines}
use Rattle.alpha_asm.specs.Labels.{location_named}
use Rattle.alpha_asm.specs.LineKinds.{kinds_of}
use Rattle.alpha_asm.specs.Assembled.{item_at}
use Rattle.alpha_asm.proofs.LayoutInsns.{layout-insns}
use Rattle.alpha_asm.proofs.symbols.assemble_with_symbols.Goals as goal

pub invariant_of-result : goal.invariant_of-result
invariant_of-result c =
    let items = map item_at (lines c.args.source.now) in
    record {
      labels =
          λ name. ap (λ l. location_named l name) c.in_ok-image.ensures.labels
          ∙ c.in_ok-pass.ensures.stands.labels name;
      kinds =
          c.in_ok-pass.ensures.kinds c.new-kinds.ensures.gathers
          ∙ ap (λ ks. ks ++ kinds_of items) c.new-kinds.ensures.items;
      code =
          c.in_ok-code.ensures.items
          ∙ (c.deref.ensures.value ∙ (c.in_ok-pass.ensures.stands.code ∙ layout-insns items));
    }
