use Rattle.std.proofs.Common.{◌≡◌, ℕ, List, Some, All, length, map, take}
use Rattle.std.specs.Prelude.{IfSome, slice_get}
use Rattle.std.specs.Option.{option_map}
use Rattle.alpha_asm.specs.Labels.{location_named}
use Rattle.alpha_link.specs.Symbols.{named}
use Rattle.alpha_link.specs.Made.{symbol_at_location}
use Rattle.alpha_link.specs.NameKeys.{IsKeyed}
use Rattle.alpha_link.specs.Numbered.{texts, HasRank}
use Rattle.alpha_link.proofs.DistinctNames.{distinct_names, last_left}
use Rattle.alpha_link.proofs.source_symbols.Ranked.build.Given as goal

abbrev pub invariant-loop-keyed_name : goal.invariant-loop-keyed_name
invariant-loop-keyed_name l =
    (map named l.symbols.items
    ≡ map (λ n. symbol_at_location n.now (location_named l.labels n.now))
    (distinct_names (map (λ k. k.name) (take l.keyed_name-index l.keyed))))
    × (option_map (λ k. k.now.name) l.last ≡ last_left (map (λ k. k.name) (take l.keyed_name-index l.keyed)))
    × ((front : List ℕ) → All (λ k. IsKeyed front k.key k.name.now) l.keyed
    → IfSome l.last (λ k. IsKeyed front k.now.key k.now.name.now))
    × (length l.ranks.items ≡ length l.keyed)
    × IfSome l.last
    (λ k. slice_get (texts (distinct_names (map (λ k. k.name) (take l.keyed_name-index l.keyed)))) l.rank
    ≡ Some k.now.name.now)
    × All (HasRank l.ranks.items (texts (distinct_names (map (λ k. k.name) (take l.keyed_name-index l.keyed)))))
    (take l.keyed_name-index l.keyed)
