-- What one of two days is given, and its part of the answer.
use Rattle.std.specs.Prelude.{◌≡◌, ℕ, true, false, cond, List, Ok, Err, Result}
use Rattle.tape.specs.declared.fault.TapeFault.{TapeFault}
use Rattle.tape.specs.Codes.{Refusal, refused, tape_refusal}
use Rattle.tape.specs.Sound.{Verdict}
use Rattle.reference.specs.declared.finding.Reference.{Reference}
use Rattle.reference.specs.declared.finding.Request.{Request}
use Rattle.reference.specs.Codes.{reference_refusal}
use Rattle.reference.specs.Finding as reference
use Rattle.reference.specs.Meaning.{Found, Nothing}
use Rattle.limits.specs.Meaning.{Meaning}
use Rattle.limits.specs.Around.{not_above}
use Rattle.day.specs.declared.view.View.{View}
use Rattle.day.specs.Codes.{open_number}
use Rattle.days.specs.declared.call.Call.{Call}
use Rattle.days.specs.Asking.{CallData, carried, all_carried}
use Rattle.days.specs.Telling.{Told, told}
use Rattle.days.specs.Past.{clock}
use Rattle.days.specs.Due.{shown_due, told_due}
use Rattle.promise.specs.declared.plan.DayPlan.{DayPlan}
use Rattle.promise.specs.declared.run.DayRun.{DayRun}
use Rattle.promise.specs.declared.run.RunFault.{RunFault}
use Rattle.promise.specs.declared.run.RunFault.TheVariants as fault

-- The bytes of the tape, what the calls carried, the newest first, and the further call.
pub record Given : Type 0 where
  pub tape : List ℕ
  pub calls : List CallData
  pub next : CallData

abbrev pub given : List ℕ → List Call → Call → Given
given b xs x = record { tape = b; calls = all_carried xs; next = carried x }

abbrev pub given_by : DayPlan → Given
given_by d = given d.tape.now d.calls.now d.next

-- No reference, with the refusal and its place; a reference that the day did not open at, with the refusal's number; or
-- the reference, the price opened at, the clock and the view after the calls, and the answer to the further call.
pub data Part : Type 0 where
  no_reference : Refusal → Part
  not_opened : Reference → ℕ → Part
  ran : Reference → ℕ → ℕ → View → Told → Part

abbrev pub part_told : Result DayRun RunFault → Part
part_told (Ok d) = ran d.reference d.price d.outcome.clock d.outcome.view (told d.outcome.answer)
part_told (Err (fault.Reference f)) = no_reference (reference_refusal f)
part_told (Err (fault.Open r f)) = not_opened r (open_number f)

abbrev pub fault_refusal : RunFault → Refusal
fault_refusal (fault.Reference f) = reference_refusal f
fault_refusal (fault.Open r f) = refused (open_number f)

-- The reference of a part, or its refusal.
abbrev pub reference_in : Part → Result Reference Refusal
reference_in (no_reference f) = Err f
reference_in (not_opened r k) = Ok r
reference_in (ran r p k v a) = Ok r

-- What a refused reference says of the request and the tape: the request is out of range, the tape is unsound at the
-- place told, or none of the windows has a mean.
pub data Unreferred (q : Request) (b : List ℕ) : Refusal → Type 0 where
  unfit : reference.fit q ≡ false → Unreferred q b (refused 8)
  unsound : (e : TapeFault) → reference.fit q ≡ true → Verdict b (Err e) → Unreferred q b (tape_refusal e)
  bare : reference.fit q ≡ true → Nothing q b → Unreferred q b (refused 9)

-- What a reference, or its refusal, says of them.
abbrev pub Referred : Request → List ℕ → Result Reference Refusal → Type 0
Referred q b (Ok r) = (reference.fit q ≡ true) × Found q b r
Referred q b (Err f) = Unreferred q b f

module _ (m : Meaning) where
  -- The price that a day opens at.
  abbrev pub opens_at : Reference → ℕ
  opens_at r = not_above m.unit r.price

  abbrev pub opened : Reference → ℕ → List CallData → CallData → Part
  opened r p cs c = cond (m.takes p) (ran r p (clock m p cs) (shown_due m p cs) (told_due m p cs c)) (not_opened r 10)

  abbrev pub part_of : Result Reference Refusal → List CallData → CallData → Part
  part_of (Ok r) cs c = opened r (opens_at r) cs c
  part_of (Err f) cs c = no_reference f

  -- The part due: the reference due to the request on the tape, and all else by the reading of the calls.
  abbrev pub part_due : Request → Given → Part
  part_due q d = part_of (reference.due q d.tape) d.calls d.next
