-- Bytes of a script in a row, and what they make of a session.
use Rattle.std.specs.Prelude.{◌==◌}
use Rattle.std.proofs.Common.{◌≡◌, ◌∙◌, ℕ, suc, ◌-◌, ◌<◌, ◌≤◌, false, List, [], ◌∷◌, ◌++◌, length, get_or, take, drop}
use Rattle.std.proofs.Common.{Option, take-append-drop, refl, sym, ap, subst, append_assoc, append-nil, arith}
use Rattle.std.proofs.Math.Seq.{take-suc}
use Rattle.std.proofs.lemmas.List.{length-append, length-take, take_all, take-append-le}
use Rattle.std.proofs.lemmas.List.Elements.{All-append, All-cons}
use Rattle.std.specs.Str.Lines.{strip_carriage_return}
use Rattle.alpha_debug.specs.declared.command.Command.{Command}
use Rattle.alpha_debug.specs.declared.debugger.Debugger.{Debugger}
use Rattle.alpha_debug.specs.declared.debugger.SessionState.{SessionState}
use Rattle.alpha_debug.specs.declared.debugger.SessionState.TheVariants.{Continues, Quits}
use Rattle.alpha_debug.specs.Command.{command_of}
use Rattle.alpha_debug.specs.Session.{Setting, Session, text_of, answer}
use Rattle.alpha_debug.specs.Script.{Transcript, lines_within, answers, closed}
use Rattle.alpha_debug.specs.OutputChange.{OutputChange, output_change_by, AppendsOutput}
use Rattle.alpha_debug.specs.Effects.{FailsBehind, session_of, setting_of, left_by, Answers, AnswerFails, IsPendingLine}
use Rattle.alpha_debug.specs.Effects.{told_from, told_after, FeedsBytes, FeedFails}
use Rattle.alpha_debug.proofs.SinkEffects.{FailsBehind-more, FailsBehind-after, AppendsOutput-both}
use Rattle.alpha_debug.proofs.ScriptLines.{LineHasNoFeed, told_from-other_byte, told_from-line_feed}
use Rattle.alpha_debug.proofs.ScriptLines.{closed-over_session, command_of-held_line, answers-grows}

-- ---- no bytes

pub FeedsBytes-none : (begun held : List ℕ) (d : Debugger) (out : OutputChange) → IsPendingLine begun held
    → AppendsOutput out []
    → FeedsBytes [] begun Continues d d held out
FeedsBytes-none begun held d out is_held none = record {
  put = [];
  line = begun;
  wrote = none;
  pending_is = is_held;
  is = λ text most rest l.
      let same : most ≡ most - 0 = omega arith in
      ap (λ (n : ℕ). told_from d text n begun rest) same
      ∙ ap (λ (t : List ℕ). told_from d t (most - 0) begun rest) (sym (append-nil text));
}

-- ---- a line feed

after-feed : (talk : SessionState) (old new : Debugger) (text : List ℕ) (n : ℕ) (rest : List ℕ)
    → setting_of new ≡ setting_of old
    → closed n rest (answers (setting_of old) (left_by talk new text) (lines_within n [] rest))
    ≡ told_after talk new text n [] rest
after-feed Continues old new text n rest same =
    ap (λ (g : Setting). closed n rest (answers g (session_of new text) (lines_within n [] rest))) (sym same)
after-feed Quits old new text n rest same =
    closed-over_session (setting_of old) n rest (lines_within n [] rest) (left_by Quits new text) refl

-- the line that is handed on is answered as the line in hand
pub line-command : (begun held line : List ℕ) → IsPendingLine begun held → line ≡ strip_carriage_return held
    → command_of line ≡ command_of (strip_carriage_return begun)
line-command begun held line is_held e =
    ap command_of e
    ∙ (ap (λ (l : List ℕ). command_of (strip_carriage_return l)) is_held.front ∙ command_of-held_line begun)

pub FeedsBytes-line_feed : (begun held line : List ℕ) (talk : SessionState) (old new : Debugger) (out : OutputChange)
    → IsPendingLine begun held → line ≡ strip_carriage_return held → setting_of new ≡ setting_of old
    → Answers (command_of line) talk old new out → FeedsBytes (10 ∷ []) begun talk old new [] out
FeedsBytes-line_feed begun held line talk old new out is_held e same answers_is = record {
  put = answers_is.bytes;
  line = [];
  wrote = answers_is.wrote;
  pending_is = record { front = refl; line = λ k d l. absurd (omega arith) };
  is = λ text most rest l.
      let n : ℕ = most - 1 in
      let next : most ≡ suc n = omega arith in
      ap (λ (m : ℕ). told_from old text m begun (10 ∷ rest)) next
      ∙ (told_from-line_feed old text n begun rest is_held.line
      ∙ (ap (λ (c : Command). closed n rest
      (answers (setting_of old) (answer (setting_of old) c (session_of old text)) (lines_within n [] rest)))
      (sym (line-command begun held line is_held e))
      ∙ (ap (λ (s : Session). closed n rest (answers (setting_of old) s (lines_within n [] rest))) (answers_is.is text)
      ∙ after-feed talk old new (text ++ answers_is.bytes) n rest same)));
}

pub line_feed-FeedFails : (begun held line : List ℕ) (old : Debugger) (out : OutputChange) → IsPendingLine begun held
    → line ≡ strip_carriage_return held
    → AnswerFails (command_of line) old out → FeedFails (10 ∷ []) begun old out
line_feed-FeedFails begun held line old out is_held e fails text most rest l =
    let n : ℕ = most - 1 in
    let next : most ≡ suc n = omega arith in
    let g : Setting = setting_of old in
    let s : Session = answer g (command_of line) (session_of old text) in
    let whole : told_from old text most begun (10 ∷ rest) ≡ closed n rest (answers g s (lines_within n [] rest)) =
    ap (λ (m : ℕ). told_from old text m begun (10 ∷ rest)) next
    ∙ (told_from-line_feed old text n begun rest is_held.line
    ∙ ap (λ (c : Command). closed n rest (answers g (answer g c (session_of old text)) (lines_within n [] rest)))
    (sym (line-command begun held line is_held e))) in
    subst (λ (t : Transcript). FailsBehind out text t.text) (sym whole)
    (FailsBehind-more out text (text_of s) (text_of (answers g s (lines_within n [] rest))) (fails text)
    (answers-grows g s (lines_within n [] rest)))

-- ---- another byte

all-one : (b : ℕ) → (b == 10) ≡ false → LineHasNoFeed (b ∷ [])
all-one b other = All-cons (λ x. (x == 10) ≡ false) b [] other (λ k d l. absurd (omega arith))

pub IsPendingLine-other_byte : (b : ℕ) (begun held : List ℕ) → (b == 10) ≡ false → LineHasNoFeed begun
    → held ≡ take 1026 (begun ++ b ∷ []) → IsPendingLine (begun ++ b ∷ []) held
IsPendingLine-other_byte b begun held other line front =
    record { front = front; line = All-append (λ x. (x == 10) ≡ false) begun (b ∷ []) line (all-one b other) }

pub FeedsBytes-other_byte : (b : ℕ) (begun held : List ℕ) (d : Debugger) (out : OutputChange) → (b == 10) ≡ false
    → LineHasNoFeed begun → held ≡ take 1026 (begun ++ b ∷ []) → AppendsOutput out []
    → FeedsBytes (b ∷ []) begun Continues d d held out
FeedsBytes-other_byte b begun held d out other line front none = record {
  put = [];
  line = begun ++ b ∷ [];
  wrote = none;
  pending_is = IsPendingLine-other_byte b begun held other line front;
  is = λ text most rest l.
      let n : ℕ = most - 1 in
      let next : most ≡ suc n = omega arith in
      ap (λ (m : ℕ). told_from d text m begun (b ∷ rest)) next
      ∙ (told_from-other_byte d text n b begun rest
      ∙ ap (λ (t : List ℕ). told_from d t n (begun ++ b ∷ []) rest) (sym (append-nil text)));
}

-- the front of a line with a byte more, which is held where there is room
pub held_prefix-push : (b : ℕ) (begun held more : List ℕ) → held ≡ take 1026 begun → length held < 1026
    → more ≡ held ++ b ∷ []
    → more ≡ take 1026 (begun ++ b ∷ [])
held_prefix-push b begun held more front room e =
    let size : length (take 1026 begun) < 1026 = subst (λ (l : List ℕ). length l < 1026) front room in
    let short : length begun < 1026 = omega (arith, size, length-take 1026 begun) in
    let all : held ≡ begun = front ∙ take_all 1026 begun (omega (arith, short)) in
    e
    ∙ (ap (λ (l : List ℕ). l ++ b ∷ []) all
    ∙ sym (take_all 1026 (begun ++ b ∷ []) (omega (arith, short, length-append begun (b ∷ [])))))

pub held_prefix-full : (b : ℕ) (begun held : List ℕ) → held ≡ take 1026 begun → length held ≡ 1026
    → held ≡ take 1026 (begun ++ b ∷ [])
held_prefix-full b begun held front full =
    let size : length (take 1026 begun) ≡ 1026 = ap length (sym front) ∙ full in
    let long : 1026 ≤ length begun = omega (arith, size, length-take 1026 begun) in
    front ∙ sym (take-append-le 1026 begun (b ∷ []) long)

-- ---- bytes behind bytes

module _ {K : Type 0} (written : K → Option (List ℕ)) (faults : K → ℕ)
    (o p q : K × List ℕ) (xs ys begun : List ℕ) (a b c : Debugger) (held_b : List ℕ)
    (first : FeedsBytes xs begun Continues a b held_b (output_change_by written faults o p)) where
  -- the transcript behind the first bytes
  script_rest : (text : List ℕ) (most : ℕ) (rest : List ℕ) → length (xs ++ ys) ≤ most
      → told_from a text most begun ((xs ++ ys) ++ rest)
      ≡ told_from b (text ++ first.put) (most - length xs) first.line (ys ++ rest)
  script_rest text most rest l =
      ap (λ (s : List ℕ). told_from a text most begun s) (append_assoc xs ys rest)
      ∙ first.is text most (ys ++ rest) (omega (arith, l, length-append xs ys))

  pub FeedsBytes-then : (talk : SessionState) (held_c : List ℕ)
      → FeedsBytes ys first.line talk b c held_c (output_change_by written faults p q)
      → FeedsBytes (xs ++ ys) begun talk a c held_c (output_change_by written faults o q)
  FeedsBytes-then talk held_c second = record {
    put = first.put ++ second.put;
    line = second.line;
    wrote = AppendsOutput-both written faults o p q first.put second.put first.wrote second.wrote;
    pending_is = second.pending_is;
    is = λ text most rest l.
        let left : (most - length xs) - length ys ≡ most - length (xs ++ ys) = omega (arith, l, length-append xs ys) in
        script_rest text most rest l
        ∙ (second.is (text ++ first.put) (most - length xs) rest (omega (arith, l, length-append xs ys))
        ∙ (ap (λ (n : ℕ). told_after talk c ((text ++ first.put) ++ second.put) n second.line rest) left
        ∙ ap (λ (t : List ℕ). told_after talk c t (most - length (xs ++ ys)) second.line rest)
        (append_assoc text first.put second.put)));
  }

  pub FeedFails-then : FeedFails ys first.line b (output_change_by written faults p q)
      → FeedFails (xs ++ ys) begun a (output_change_by written faults o q)
  FeedFails-then fails text most rest l =
      subst (λ (t : Transcript). FailsBehind (output_change_by written faults o q) text t.text)
      (sym (script_rest text most rest l))
      (FailsBehind-after written faults o p q first.put text
      (told_from b (text ++ first.put) (most - length xs) first.line (ys ++ rest)).text first.wrote
      (fails (text ++ first.put) (most - length xs) rest (omega (arith, l, length-append xs ys))))

-- behind `quit` nothing is heard
pub FeedsBytes-quit : (xs ys begun : List ℕ) (a c : Debugger) (held : List ℕ) (out : OutputChange)
    → FeedsBytes xs begun Quits a c held out → FeedsBytes (xs ++ ys) begun Quits a c held out
FeedsBytes-quit xs ys begun a c held out first = record {
  put = first.put;
  line = first.line;
  wrote = first.wrote;
  pending_is = first.pending_is;
  is = λ text most rest l.
      ap (λ (s : List ℕ). told_from a text most begun s) (append_assoc xs ys rest)
      ∙ first.is text most (ys ++ rest) (omega (arith, l, length-append xs ys));
}

-- nor behind a fault
pub FeedFails-more : (xs ys begun : List ℕ) (a : Debugger) (out : OutputChange) → FeedFails xs begun a out
    → FeedFails (xs ++ ys) begun a out
FeedFails-more xs ys begun a out fails text most rest l =
    subst (λ (s : List ℕ). FailsBehind out text (told_from a text most begun s).text) (sym (append_assoc xs ys rest))
    (fails text most (ys ++ rest) (omega (arith, l, length-append xs ys)))

-- bytes are those before one, the one and those behind it
pub take-get_or-drop : (bytes : List ℕ) (i : ℕ) → i < length bytes
    → (take i bytes ++ get_or bytes i 0 ∷ []) ++ drop (suc i) bytes ≡ bytes
take-get_or-drop bytes i l =
    ap (λ (s : List ℕ). s ++ drop (suc i) bytes) (sym (take-suc bytes i 0 l)) ∙ take-append-drop (suc i) bytes
