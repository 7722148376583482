-- The laws of `debug`.
use Rattle.std.proofs.Common.{◌≡◌, ◌⊎◌, ◌∙◌, ℕ, List, [], Bool, true, false, if◌then◌else◌, Option, None, Some, IsSome}
use Rattle.std.proofs.Common.{refl, sym, ap, subst, inl, inr}
use Rattle.alpha_image.specs.Parts.{Parts}
use Rattle.alpha_shadow.specs.declared.broken.Broken.{Broken}
use Rattle.alpha_debug.specs.declared.end.DebugEnd.{DebugEnd}
use Rattle.alpha_debug.specs.declared.end.DebugEnd.TheVariants as ends
use Rattle.alpha_debug.specs.Script.{Transcript, transcript}
use Rattle.alpha_debug.specs.Session.{Setting, IsVerdict}
use Rattle.alpha_debug.proofs.Transcripts.{IsTranscript-unique, IsTranscript-exists}
use Rattle.alpha_cmd.specs.Outcome.{continues}
use Rattle.alpha_cmd.specs.Answer.{Answer}
use Rattle.alpha_cmd.specs.AnswerBy.{World}
use Rattle.alpha_cmd.specs.Form.{IsThere, streams}
use Rattle.alpha_cmd.specs.OfImage.Debug.{MayTell, session_status, answer_told, Debugs, IsEndStatus}
use Rattle.alpha_cmd.proofs.Lawful.{Lawful, Goes-lawful}
use Rattle.alpha_cmd.proofs.StageLaws.{IsLeastBroken-unique}
use Rattle.alpha_cmd.proofs.FormLaws.{IsLawfulForm, is_fault, form_of_file, of_file_lawful}

-- ---- a session has one transcript, and some

same_verdict : (words : List ℕ) (v u : Option Broken) → IsVerdict words v → IsVerdict words u → v ≡ u
same_verdict words None None h g = refl
same_verdict words None (Some b) h g = absurd (h b.trigger b.at b.condition g.broken)
same_verdict words (Some b) None h g = absurd (g b.trigger b.at b.condition h.broken)
same_verdict words (Some b) (Some c) h g = ap Some (IsLeastBroken-unique words b c h g)

same_told : (input : Option (List ℕ)) (image : Parts) (t u : Transcript) → IsSome input → MayTell input image t
    → MayTell input image u → t ≡ u
same_told None image t u told h g = cc
same_told (Some script) image t u told h g =
    let verdict =
    same_verdict image.words h.setting.verdict g.setting.verdict h.is_setting.verdict g.is_setting.verdict in
    IsTranscript-unique image script t u h g verdict

some_told : (input : Option (List ℕ)) (image : Parts) → (t : Transcript) × MayTell input image t
some_told None image = let (t, is) = IsTranscript-exists image [] in (t, ([], is))
some_told (Some script) image = IsTranscript-exists image script

Debugs-lawful : (told whole there : Type 0) (input : Option (List ℕ)) (image : Parts) → (told → IsSome input)
    → Lawful told whole there (Debugs input image)
Debugs-lawful told whole there input image has =
    Goes-lawful (λ (a : Answer). (t : Transcript) × MayTell input image t × (a ≡ answer_told t))
    (λ h a b p q. p.2 ∙ (ap answer_told (same_told input image p.0 q.0 (has h) p.1 q.1) ∙ sym q.2))
    (λ h. let (t, may) = some_told input image in (answer_told t, (t, may, refl)))

-- ---- it ends as done or as too large

abbrev pub IsSessionEnd : DebugEnd → Type 0
IsSessionEnd end = (end ≡ ends.Done) ⊎ (end ≡ ends.TooLarge)

end_by : (large : Bool) → IsSessionEnd (if large then ends.TooLarge else ends.Done)
end_by true = inr refl
end_by false = inl refl

transcript_end : (g : Setting) (script : List ℕ) → IsSessionEnd (transcript g script).end
unfolding transcript
transcript_end g script = end_by _

told_end : (input : Option (List ℕ)) (image : Parts) (t : Transcript) → MayTell input image t → IsSessionEnd t.end
told_end None image t (script, is) =
    subst (λ (u : Transcript). IsSessionEnd u.end) (sym is.is) (transcript_end is.setting script)
told_end (Some script) image t is =
    subst (λ (u : Transcript). IsSessionEnd u.end) (sym is.is) (transcript_end is.setting script)

end_plain : (end : DebugEnd) → IsSessionEnd end → is_fault (session_status end) ≡ false
end_plain end (inl is) = ap (λ e. is_fault (session_status e)) is
end_plain end (inr is) = ap (λ e. is_fault (session_status e)) is

end_ends : (end : DebugEnd) → IsSessionEnd end → IsEndStatus (session_status end)
end_ends end (inl is) = inl (ap session_status is)
end_ends end (inr is) = inr (ap session_status is)

told_ends : (input : Option (List ℕ)) (image : Parts) (a : Answer) → Debugs input image (continues a)
    → (is_fault a.status ≡ false) × IsEndStatus a.status
told_ends input image a (t, may, is) =
    let end = told_end input image t may in
    let e = ap (λ (x : Answer). x.status) is in
    (ap is_fault e ∙ end_plain t.end end, subst IsEndStatus (sym e) (end_ends t.end end))

pub debug_form-lawful : (file : List ℕ) (w : World)
    → IsLawfulForm (form_of_file Debugs (streams IsEndStatus) file) (IsThere file) w
debug_form-lawful file w =
    of_file_lawful Debugs (streams IsEndStatus) file w (λ h. h.0)
    (λ image. Debugs-lawful _ _ _ w.input image (λ h. h.1)) (told_ends w.input)
