use Rattle.std.proofs.Common.{◌≡◌, ◌++◌, List, [], ℕ, map, ap, sym, ◌∙◌, append_assoc}
use Rattle.std.specs.List.{flat_map}
use Rattle.alpha_table.specs.declared.form.Form.{Form}
use Rattle.alpha_table.specs.Encoded.{encoded}
use Rattle.alpha_image.specs.Layout.{longword}
use Rattle.alpha_link.specs.declared.header.Sizes.{Sizes}
use Rattle.alpha_link.specs.declared.relocation.Relocation.{Relocation}
use Rattle.alpha_link.specs.Header.{header_bytes}
use Rattle.alpha_link.specs.Symbols.{symbol_bytes}
use Rattle.alpha_link.specs.Relocations.{relocation_bytes}
use Rattle.alpha_link.specs.Parts.{sizes_of}
use Rattle.alpha_link.specs.Module.{parts_in}
use Rattle.alpha_link.specs.Spelled.{spelling}
use Rattle.alpha_link.proofs.SymbolBytes.{short_names}
use Rattle.alpha_link.proofs.write.module_bytes.Goals as goal

pub push_symbols-requires : goal.push_symbols-requires
push_symbols-requires c =
    let i = c.module.inside in
    short_names (sizes_of (parts_in i)) [] i.symbols c.module.invariant.good.symbols

joined : (a b c d e f h w k s r : List ℕ) → a ≡ [] → b ≡ a ++ h → c ≡ b ++ w → d ≡ c ++ k → e ≡ d ++ s → f ≡ e ++ r
    → f ≡ h ++ (w ++ (k ++ (s ++ r)))
joined a b c d e f h w k s r p q t u v x = rw (x, v, u, t, q, p) (simp append_assoc)

pub returns : goal.returns
unfolding spelling
returns c =
    let i = c.module.inside in
    let header = c.in_ok-push_header.ensures.ok ∙ ap (λ (z : Sizes). c.in_ok-out.out.items ++ header_bytes z)
    (c.sizes.ensures.value ∙ ap sizes_of (sym c.module.view_is)) in
    let words = c.in_ok-push_words.ensures.ok
    ∙ ap (λ (is : List Form). c.push_header.new.out.items ++ flat_map longword (map encoded is))
    c.deref.ensures.value in
    let stored = c.in_ok-extend_from_slice.ensures.items
    ∙ ap (λ (b : List ℕ). c.push_words.new.out.items ++ b) c.deref-2.ensures.value in
    let symbols = c.in_ok-push_symbols.ensures.ok in
    let relocations = c.in_ok-push_relocations.ensures.ok
    ∙ ap (λ (rs : List Relocation). c.push_symbols.new.out.items ++ flat_map relocation_bytes rs)
    c.deref-3.ensures.value in
    let all = joined _ _ _ _ _ _ (header_bytes (sizes_of (parts_in i))) (flat_map longword (map encoded i.insns.items))
    i.bytes.items (flat_map symbol_bytes i.symbols) (flat_map relocation_bytes i.relocations.items)
    c.in_ok-out.ensures.items header words stored symbols relocations in
    record { value = all ∙ ap spelling c.module.view_is }
