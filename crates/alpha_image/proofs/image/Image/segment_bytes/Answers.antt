use Rattle.std.proofs.Common.{◌≡◌, ◌-◌, List, length, take, refl, ap, sym, ◌∙◌, arith}
use Rattle.std.proofs.lemmas.List.{length-drop}
use Rattle.std.proofs.lemmas.Option.{slice_get_within}
use Rattle.alpha_image.specs.declared.segment.Segment.{Segment}
use Rattle.alpha_image.specs.Layout.{filled_size}
use Rattle.alpha_image.specs.Parts.{Parts}
use Rattle.alpha_image.proofs.SegmentShares.{slice_get-pieces_of, no_piece, filled_size-take_bound}
use Rattle.alpha_image.proofs.image.Image.segment_bytes.Goals as goal

pub returns-in_err-segment-clause-value : goal.returns-in_err-segment-clause-value
returns-in_err-segment-clause-value c =
    let p = c.args.self.now in
    rw c.from_residual.ensures (sym (no_piece p.segments p.bytes c.args.n (sym c.in_err-segment.ensures.value)))

pub split_at-requires-2 : goal.split_at-requires-2
split_at-requires-2 c =
    let p = c.args.self.now in
    let segments = ap (λ (q : Parts). q.segments) c.self.view_is in
    let before : c.data_size_before-before.result ≡ filled_size (take c.args.n p.segments) =
    c.data_size_before-before.ensures.value ∙ ap (λ (xs : List Segment). filled_size (take c.args.n xs)) segments in
    let all : length c.data_bytes.result.now ≡ filled_size p.segments =
    ap length c.data_bytes.ensures.value ∙ c.in_ok-segment.ensures.good.filled in
    let within =
    filled_size-take_bound p.segments c.args.n c.in_ok-segment.segment (sym c.in_ok-segment.ensures.value) in
    let behind : length c.split_at.result.1.now ≡ length c.data_bytes.result.now - c.data_size_before-before.result =
    ap length c.split_at.ensures.back ∙ length-drop c.data_size_before-before.result c.data_bytes.result.now in
    omega arith

pub returns-clause-found : goal.returns-clause-found
returns-clause-found c =
    let within =
    slice_get_within c.args.self.now.segments c.args.n c.in_ok-segment.segment (sym c.in_ok-segment.ensures.value) in
    (λ _. within, λ _. refl)

pub returns-clause-value : goal.returns-clause-value
returns-clause-value c =
    let p = c.args.self.now in
    let segments = ap (λ (q : Parts). q.segments) c.self.view_is in
    let before : c.data_size_before-before.result ≡ filled_size (take c.args.n p.segments) =
    c.data_size_before-before.ensures.value ∙ ap (λ (xs : List Segment). filled_size (take c.args.n xs)) segments in
    rw (c.split_at-2.ensures.front, c.split_at.ensures.back, c.data_bytes.ensures.value, before)
    (sym (slice_get-pieces_of p.segments p.bytes c.args.n c.in_ok-segment.segment (sym c.in_ok-segment.ensures.value)))
