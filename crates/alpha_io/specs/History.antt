-- What the calls of a device answered. It exists in proofs alone.
use Rattle.std.specs.Prelude.{◌≡◌, ◌≢◌, ◌⊎◌, ⊤, All, ℕ, zero, suc, ◌+◌, ◌==◌, ◌<◌, Bool, true, false, List, [], ◌∷◌}
use Rattle.std.specs.Prelude.{◌++◌, length, take, slice_index, Option, None, Some, if◌then◌else◌, Result, Ok, Err, refl}
use Rattle.std.specs.List.{concat, flat_map}
use Rattle.std.specs.Coded.{Coded, code_by, coded×, coded_ℕ, coded_list, coded_option}
use base.Stored.{coded_bool}

pub data Reply : Type 0 where
  -- of `piece` of a shelf: the name, where the piece was to begin, and the bytes that were given, unless it failed
  Piece : List ℕ → ℕ → Option (List ℕ) → Reply
  -- of `keep` of a shelf: the name, the bytes, and whether it was done
  Kept : List ℕ → List ℕ → Bool → Reply
  -- of `put` of a sink: the bytes that were taken
  Put : List ℕ → Reply
  -- of `take` of a source: how many bytes were asked for, and those that were given, unless it failed
  Took : ℕ → Option (List ℕ) → Reply

-- the reply to a call of `piece` that filled the buffer, that to a call of `keep`, and that to a call of `take`
abbrev pub piece_reply : {E : Type 0} → List ℕ → ℕ → Result ℕ E → List ℕ → Reply
piece_reply name at (Ok n) buffer = Piece name at (Some (take n buffer))
piece_reply name at (Err e) buffer = Piece name at None

abbrev pub keep_reply : {T E : Type 0} → List ℕ → List ℕ → Result T E → Reply
keep_reply name bytes (Ok x) = Kept name bytes true
keep_reply name bytes (Err e) = Kept name bytes false

abbrev pub take_reply : {E : Type 0} → Result ℕ E → List ℕ → Reply
take_reply (Ok n) buffer = Took (length buffer) (Some (take n buffer))
take_reply (Err e) buffer = Took (length buffer) None

-- the calls that gave these pieces of a file, each behind the one before
abbrev pub pieces_from : List ℕ → ℕ → List (List ℕ) → List Reply
pieces_from name at [] = []
pieces_from name at (piece ∷ pieces) = Piece name at (Some piece) ∷ pieces_from name (at + length piece) pieces

-- Between these two moments the shelf was asked for the pieces of this file, from its start on and each behind the one
-- before, and for nothing else. The last one alone was empty, which says that the file ends there. The pieces are these
-- bytes.
pub record IsReadWhole (old new : List Reply) (name bytes : List ℕ) : Type 0 where
  pub pieces : List (List ℕ)
  pub some : All (λ piece. piece ≢ []) pieces
  pub whole : concat pieces ≡ bytes
  pub calls : new ≡ old ++ pieces_from name 0 pieces ++ Piece name (length bytes) (Some []) ∷ []

-- Between these two moments the shelf was asked for pieces of this file, from its start on and each behind the one
-- before, and for nothing else. None was empty, so the file may go on behind them. The pieces are these bytes.
pub record IsReadTo (old new : List Reply) (name bytes : List ℕ) : Type 0 where
  pub pieces : List (List ℕ)
  pub some : All (λ piece. piece ≢ []) pieces
  pub whole : concat pieces ≡ bytes
  pub calls : new ≡ old ++ pieces_from name 0 pieces

-- So it is, and no more was asked for; or the piece behind them was, and that failed.
abbrev pub IsReadInPart : List Reply → List Reply → List ℕ → Type 0
IsReadInPart old new name =
    (before : List Reply) × (bytes : List ℕ) × IsReadTo old before name bytes
    × ((new ≡ before) ⊎ (new ≡ before ++ Piece name (length bytes) None ∷ []))

-- the bytes that a sink took
abbrev pub bytes_put : Reply → List ℕ
bytes_put (Put bytes) = bytes
bytes_put reply = []

abbrev pub all_put : List Reply → List ℕ
all_put [] = []
all_put (reply ∷ replies) = bytes_put reply ++ all_put replies

-- the bytes that a source gave
abbrev pub bytes_given : Reply → List ℕ
bytes_given (Took asked (Some bytes)) = bytes
bytes_given reply = []

abbrev pub all_given : List Reply → List ℕ
all_given replies = flat_map bytes_given replies

-- a call that gave some bytes
abbrev pub GaveSome : Reply → Type 0
GaveSome reply = bytes_given reply ≢ []

-- The last of these calls: where as many bytes were given as were asked for, there is none behind those that gave some,
-- and else there is one that gave none, which says that the input ends there.
abbrev pub EndsRead : List Reply → List Reply → ℕ → ℕ → Type 0
EndsRead before new asked given =
    ((given ≡ asked) × (new ≡ before)) ⊎ ((given < asked) × (n : ℕ) × (new ≡ before ++ Took n (Some []) ∷ []))

-- Between these two moments a source was asked for so many bytes and gave these, and was asked for nothing else: each
-- call gave some of them, until there were as many, or the input ended.
pub record IsRead (old new : List Reply) (asked : ℕ) (given : List ℕ) : Type 0 where
  pub takes : List Reply
  pub some : All GaveSome takes
  pub whole : all_given takes ≡ given
  pub ends : EndsRead (old ++ takes) new asked (length given)

-- The same where the last call failed: those before it gave these bytes.
pub record FailsToRead (old new : List Reply) (given : List ℕ) : Type 0 where
  pub takes : List Reply
  pub some : All GaveSome takes
  pub whole : all_given takes ≡ given
  pub asked : ℕ
  pub fails : new ≡ (old ++ takes) ++ Took asked None ∷ []

-- a call of `take`
abbrev pub IsTake : Reply → Type 0
IsTake (Took asked given) = ⊤
IsTake reply = ⊥

-- Between these two moments a source gave these bytes, and was asked for nothing else.
pub record HasGiven (old new : List Reply) (bytes : List ℕ) : Type 0 where
  pub takes : List Reply
  pub only : All IsTake takes
  pub whole : all_given takes ≡ bytes
  pub calls : new ≡ old ++ takes

-- What the numbers, a name and bytes spell that `History::note` is given: the numbers say which call it was, where a
-- piece begins or how many bytes were asked for, and 1 where it was done.
abbrev pub noted : List ℕ → List ℕ → List ℕ → Reply
noted numbers name bytes =
    if slice_index numbers 0 == 0
    then Piece name (slice_index numbers 1) (if slice_index numbers 2 == 1 then Some bytes else None)
    else (if slice_index numbers 0 == 1 then Kept name bytes (slice_index numbers 2 == 1)
    else (if slice_index numbers 0 == 2 then Put bytes
    else Took (slice_index numbers 1) (if slice_index numbers 2 == 1 then Some bytes else None)))

-- A reply as the kit stores it.
abbrev pub Stored : Type 0
Stored = ℕ × (List ℕ × (ℕ × (Bool × (List ℕ × Option (List ℕ)))))

abbrev pub stored : Reply → Stored
stored (Piece name at given) = (0, (name, (at, (true, ([], given)))))
stored (Kept name bytes done) = (1, (name, (0, (done, (bytes, None)))))
stored (Put bytes) = (2, ([], (0, (true, (bytes, None)))))
stored (Took asked given) = (3, ([], (asked, (true, ([], given)))))

abbrev pub read_back : Stored → Reply
read_back (zero, (name, (at, (done, (bytes, given))))) = Piece name at given
read_back (suc zero, (name, (at, (done, (bytes, given))))) = Kept name bytes done
read_back (suc (suc zero), (name, (at, (done, (bytes, given))))) = Put bytes
read_back (suc (suc (suc n)), (name, (at, (done, (bytes, given))))) = Took at given

pub stored_back : (reply : Reply) → read_back (stored reply) ≡ reply
stored_back (Piece name at given) = refl
stored_back (Kept name bytes done) = refl
stored_back (Put bytes) = refl
stored_back (Took asked given) = refl

abbrev pub replies_code : Coded (List Reply)
replies_code =
    coded_list (code_by Stored (coded× coded_ℕ (coded× (coded_list coded_ℕ)
    (coded× coded_ℕ (coded× coded_bool (coded× (coded_list coded_ℕ) (coded_option (coded_list coded_ℕ)))))))
    stored read_back stored_back)
