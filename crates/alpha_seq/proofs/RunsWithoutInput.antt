-- A run that reads nothing is the same over every input.
use Rattle.std.proofs.Common.{◌≡◌, ℕ, false, List, [], ◌∷◌, length, take, drop, refl, sym, ap, subst, ◌∙◌, arith}
use Rattle.alpha_pal.specs.Call.{Traffic, Silent, Read, Wrote, asked_in, given_in}
use Rattle.alpha_seq.specs.State.{Program, State, Event, Stepped}
use Rattle.alpha_seq.specs.Step.{next_class, step_from}
use Rattle.alpha_seq.specs.Run.{asked, given, traffic_of, is_read, begins, next, Runs, Fed, ReadNothing, after}
use Rattle.alpha_seq.proofs.InputRequests.{step-asks}
use Rattle.alpha_seq.proofs.RunSequence.{fed-after}

is_read-no_input : (e : Event) → is_read (traffic_of e) ≡ false → (asked e ≡ 0) × (given e ≡ [])
is_read-no_input e none = by (traffic_of e) none
  where
    by : (t : Traffic) → is_read t ≡ false → (asked_in t ≡ 0) × (given_in t ≡ [])
    by Silent none = (refl, refl)
    by (Read n bytes) none = cc
    by (Wrote bytes) none = (refl, refl)

-- two such runs of as many steps are one, whatever the other was given
pub ReadNothing-same_run : (g : Program) (xs ys : List Event) (a b c : Stepped) → Runs g a xs b → Runs g a ys c
    → ReadNothing xs
    → length xs ≡ length ys → (xs ≡ ys) × (b ≡ c)
ReadNothing-same_run g [] [] a b c one two none size = (refl, sym one ∙ two)
ReadNothing-same_run g [] (y ∷ ys) a b c one two none size = absurd (omega (arith, size))
ReadNothing-same_run g (x ∷ xs) [] a b c one two none size = absurd (omega (arith, size))
ReadNothing-same_run g (x ∷ xs) (y ∷ ys) a b c one two none size =
    let f = step-asks g (next_class g a.state.pc) a.state in
    let zero_count : f.count ≡ 0 = sym (f.asks (given x)) ∙ (ap asked one.1 ∙ (is_read-no_input x none.0).0) in
    let still : (i : List ℕ) → step_from g a.state i ≡ step_from g a.state [] =
    λ i. f.only i ∙ ap (λ n. step_from g a.state (take n i)) zero_count in
    let same : next g a x ≡ next g a y = still (given x) ∙ sym (still (given y)) in
    let head : x ≡ y = sym one.1 ∙ (ap (λ (t : Stepped). t.event) same ∙ two.1) in
    let rest =
    ReadNothing-same_run g xs ys (next g a x) b c one.2 (subst (λ (t : Stepped). Runs g t ys c) (sym same) two.2) none.1
    (omega (arith, size)) in
    (ap (λ (e : Event). e ∷ xs) head ∙ ap (λ l. y ∷ l) rest.0, rest.1)

-- over an input it leaves all of it
pub unread_fed : (input : List ℕ) (events : List Event) → ReadNothing events → Fed input events input
unread_fed input [] none = refl
unread_fed input (e ∷ events) none =
    let q = is_read-no_input e none.0 in (
      q.1 ∙ ap (λ n. take n input) (sym q.0),
      subst (λ l. Fed l events input) (ap (λ l. drop (length l) input) (sym q.1)) (unread_fed input events none.1),
    )

pub unread_after : (g : Program) (s : State) (events : List Event) (at : Stepped) (input : List ℕ)
    → Runs g (begins s) events at → ReadNothing events
    → after g s input (length events) ≡ record { at = at; events = events; left = input }
unread_after g s events at input runs none = fed-after g s events at input input runs (unread_fed input events none)
