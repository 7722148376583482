use Rattle.std.proofs.Common.{◌≡◌, ℕ, ◌+◌, ◌<◌, true, false, List, [], ◌∷◌, ◌++◌, Some, take, map, length, get_or, Bor}
use Rattle.std.proofs.Common.{All, refl, sym, ap, ◌∙◌, arith}
use Rattle.std.specs.Prelude.{IfSome, IfNone, not, slice_get}
use Rattle.std.specs.Option.{option_map}
use Rattle.std.specs.Str.{bytes_eq}
use Rattle.std.proofs.lemmas.List.{take_all, take_more, map-append, length-map, length-set}
use Rattle.std.proofs.lemmas.Option.{slice_get_within}
use Rattle.alpha_asm.specs.Labels.{location_named}
use Rattle.alpha_link.specs.declared.keyed.KeyedName.{KeyedName}
use Rattle.alpha_link.specs.Symbols.{named}
use Rattle.alpha_link.specs.Made.{symbol_at_location}
use Rattle.alpha_link.specs.NameKeys.{IsKeyed}
use Rattle.alpha_link.specs.Numbered.{texts}
use Rattle.alpha_link.proofs.Ranks.{RanksGrown, grown_new, grown_old, ranks_more}
use Rattle.alpha_link.proofs.DistinctNames.{distinct_names, IfSome-option_map, IfSome-of_option_map, IfNone-option_map}
use Rattle.alpha_link.proofs.source_symbols.Ranked.build.Goals.{then-is_new+in_ok-rank+in_ok-push, else-is_new}
use Rattle.alpha_link.proofs.source_symbols.Ranked.build.Goals as goal

abbrev none : KeyedName
none = record { key = 0; name = record { ref_ptr = (0, 0); now = [] }; number = 0 }

pub is_new-requires : goal.is_new-requires
is_new-requires c =
    let (front, all) = c.requires.keys in
    let (symbols, last, keyed, size, stays, ranks) = c.loop-keyed_name.invariant in
    (front, keyed front all, all c.loop-keyed_name.keyed_name-index none c.loop-keyed_name-test.true)

pub index_mut-requires : goal.index_mut-requires
index_mut-requires c =
    let (names, numbered, count, numbers) = c.requires.numbers in
    let (symbols, last, keyed, size, stays, ranks) = c.loop-keyed_name.invariant in
    let x = get_or c.args.keyed.now c.loop-keyed_name.keyed_name-index none in
    let inside : x.number < length names = slice_get_within names x.number x.name.now
    (numbers c.loop-keyed_name.keyed_name-index none c.loop-keyed_name-test.true) in
    omega (arith, count, size)

pub loop-keyed_name-preserved : goal.loop-keyed_name-preserved
loop-keyed_name-preserved c =
    let name : KeyedName → Bor (List ℕ) = λ k. k.name in
    let named_last : Bor KeyedName → Bor (List ℕ) = λ k. k.now.name in
    let spot = location_named c.args.labels.now in
    let ks = c.args.keyed.now in
    let i = c.loop-keyed_name.keyed_name-index in
    let x = get_or ks i none in
    let ns = map name (take i ks) in
    let before = c.loop-keyed_name.last in
    let rank = c.loop-keyed_name.rank in
    let (symbols, last, keyed, size, stays, ranks) = c.loop-keyed_name.invariant in
    let (names, numbered, count, numbers) = c.requires.numbers in
    let in_names : x.number < length names =
    slice_get_within names x.number x.name.now (numbers i none c.loop-keyed_name-test.true) in
    let inside : x.number < length c.loop-keyed_name.ranks.items = omega (arith, count, size) in
    let longer : map name (take (i + 1) ks) ≡ ns ++ x.name ∷ [] =
    ap (map name) (take_more ks i none c.loop-keyed_name-test.true) ∙ map-append name (take i ks) (x ∷ []) in
    let grown : RanksGrown spot ns x.name (map named c.if-is_new.symbols.items)
    (option_map named_last c.if-is_new.last) c.if-is_new.rank =
    elim c.if-is_new.branch [
      | then-is_new+in_ok-rank+in_ok-push w ↦
          let some : IfSome before (λ b. true ≡ not (bytes_eq x.name.now b.now.name.now)) =
          rw w.if-is_new.true at c.is_new.ensures.some in
          let old = map named c.loop-keyed_name.symbols.items in
          let pushed : map named c.if-is_new.symbols.items
          ≡ old ++ symbol_at_location x.name.now (spot x.name.now) ∷ [] =
          ap (λ v. map named v.items) w.symbols-is
          ∙ (ap (map named) w.in_ok-push.ensures.items
          ∙ (map-append named c.loop-keyed_name.symbols.items (w.symbol_of.result ∷ [])
          ∙ ap (λ s. old ++ s ∷ []) w.symbol_of.ensures)) in
          let place : c.if-is_new.rank ≡ length old = w.rank-is ∙ (w.in_ok-rank.ensures.value ∙ (w.len.ensures
          ∙ (c.loop-keyed_name.symbols.ok.0 ∙ sym (length-map c.loop-keyed_name.symbols.items named)))) in
          rw (pushed, w.last-is)
          (grown_new spot ns (option_map named_last before) x.name old c.if-is_new.rank symbols last
          (IfSome-option_map named_last (λ b. true ≡ not (bytes_eq x.name.now b.now)) before some) place)
      | else-is_new w ↦
          let some : IfSome before (λ b. false ≡ not (bytes_eq x.name.now b.now.name.now)) =
          rw w.if-is_new.false at c.is_new.ensures.some in
          let nothing : IfNone before (false ≡ true) = rw w.if-is_new.false at c.is_new.ensures.none in
          rw (w.symbols-is, w.last-is, w.rank-is)
          (grown_old spot ns (option_map named_last before) x.name (map named c.loop-keyed_name.symbols.items) rank
          symbols last (IfNone-option_map named_last (false ≡ true) before nothing)
          (IfSome-option_map named_last (λ b. false ≡ not (bytes_eq x.name.now b.now)) before some)
          (IfSome-option_map named_last (λ b. slice_get (texts (distinct_names ns)) rank ≡ Some b.now) before stays))
    ] in
    let key : (front : List ℕ) → All (λ k. IsKeyed front k.key k.name.now) ks
    → IfSome c.if-is_new.last (λ k. IsKeyed front k.now.key k.now.name.now) =
    elim c.if-is_new.branch [
      | then-is_new+in_ok-rank+in_ok-push w ↦ λ front all. rw w.last-is (all i none c.loop-keyed_name-test.true)
      | else-is_new w ↦ λ front all. rw w.last-is (keyed front all)
    ] in
    let (more, grows) = grown.grows in
    rw longer (
      grown.made,
      grown.left,
      key,
      length-set c.loop-keyed_name.ranks.items x.number c.if-is_new.rank ∙ size,
      IfSome-of_option_map named_last
          (λ b. slice_get (texts (distinct_names (ns ++ x.name ∷ []))) c.if-is_new.rank ≡ Some b.now)
          c.if-is_new.last grown.stays,
      ranks_more names ks i x none c.loop-keyed_name.ranks.items c.if-is_new.rank (distinct_names ns)
          (distinct_names (ns ++ x.name ∷ [])) more c.loop-keyed_name-test.true refl numbers inside grows grown.stands
          ranks,
    )

pub returns-clause-ranks : goal.returns-clause-ranks
returns-clause-ranks c =
    let (symbols, last, keyed, size, stays, ranks) = c.loop-keyed_name.invariant in
    rw (take_all c.loop-keyed_name.keyed_name-index c.args.keyed.now c.loop-keyed_name-test.false) at ranks
