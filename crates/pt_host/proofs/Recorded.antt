-- What is made between the begin and the end of an event.
use Rattle.std.proofs.Common.{◌≡◌, ◌∙◌, ◌++◌, ℕ, Global, List, String, ap, codes, inl, inr, refl, string_bytes, subst, sym}
use Rattle.std.specs.Option.{option_map}
use Rattle.std.specs.Prelude.{IfOk, Option, Some, None, Result, Ok, Err}
use Rattle.std.specs.Result.{result_ok}
use Rattle.std.specs.declared.alloc.AllocError.{AllocError}
use Rattle.pt_messages.specs.EventMembers.{event_members}
use Rattle.pt_messages.specs.Members.{empty_members, line_of}
use Rattle.pt_host.specs.Events.{BeginsEvent, BeginsWith, EndsEvent, EndsFile, EndsRecord, EventHead, EventText, IsRecorded, MakesEvent, judged_beside}
use Rattle.pt_host.specs.Events.{Replaces, event_status, event_text_at, paths_of}
use Rattle.pt_host.specs.Machine.{MachineWords}
use Rattle.pt_host.specs.Told.{TellsEvent}
use Rattle.pt_host.specs.declared.event.EventFault.{EventFault}
use Rattle.pt_host.specs.declared.event.EventFault.TheVariants as fault
use Rattle.pt_host.specs.declared.event.EventFile.{EventFile}
use Rattle.pt_host.specs.declared.operation.Conclusion.{Conclusion}

module _ {H : Type 0} (words : MachineWords H) (head : EventHead) (makes : H → H → Conclusion → Type 0) where
  -- an event that was begun, if one is wanted, what was made then, and its end are a record of it
  pub recorded : (path : Option (List ℕ)) (event : Option EventFile) (old mid after new : H) (ran : Conclusion) (status : ℕ)
      → BeginsEvent words head path old mid (Ok event) → makes mid after ran → EndsEvent words event ran after new status
      → IsRecorded words head path makes old new status
  recorded None None old mid after new ran status (none, begun) made (ended, closed) =
      (ran, subst (λ (h : H). makes h new ran) begun (subst (λ (h : H). makes mid h ran) (sym closed) made), ended)
  recorded None (Some file) old mid after new ran status (none, begun) made ended = absurd (cc)
  recorded (Some path) None old mid after new ran status begun made ended = absurd begun
  recorded (Some path) (Some file) old mid after new ran status (paths, begun) made ended = (
    event_members file.event,
    Ok tt,
    mid,
    begun,
    (ran, after, made, subst (λ (p : List ℕ × List ℕ). EndsRecord words p (event_members file.event) ran after new status) paths ended),
  )

  -- and one that couldn't begin is all, with why
  pub unbegun : (path : Option (List ℕ)) (why : EventFault) (old mid new : H) (status : ℕ) → BeginsEvent words head path old mid (Err why)
      → status ≡ event_status why → TellsEvent words (codes "pairtree2ocfl: ") why mid new
      → IsRecorded words head path makes old new status
  unbegun None why old mid new status (none, begun) is told = absurd (cc)
  unbegun (Some path) why old mid new status (first, begun) is told = (first, Err why, mid, begun, (is, told))

-- an event whose file was made, at the paths that it has and with its members, is begun
pub begun_event : {H : Type 0} (words : MachineWords H) (head : EventHead) (path : Option (List ℕ)) (bytes : List ℕ) (file : EventFile)
    (made : EventText) (old new : H) → path ≡ Some bytes → file.path ≡ bytes → file.part ≡ bytes ++ codes ".part"
    → made.file ≡ file.path → made.part ≡ file.part → made.text ≡ line_of (event_members file.event) → BeginsWith head (event_members file.event)
    → MakesEvent words (judged_beside head) made old new (Ok tt) → BeginsEvent words head path old new (Ok (Some file))
begun_event words head None bytes file made old new given is-path is-part file-is part-is text-is begins makes = absurd (cc)
begun_event words head (Some path) bytes file made old new given is-path is-part file-is part-is text-is begins makes =
    let same : bytes ≡ path = cc in
    let named : (file.path, file.part) ≡ paths_of path = (λ i. (is-path i, is-part i)) ∙ ap paths_of same in
    let is : made ≡ event_text_at (file.path, file.part) (event_members file.event) =
    λ i. record { file = file-is i; part = part-is i; text = text-is i } in (
      named,
      inr (
        begins,
        subst (λ (e : EventText). MakesEvent words (judged_beside head) e old new (Ok tt))
            (is ∙ ap (λ (p : List ℕ × List ℕ). event_text_at p (event_members file.event)) named) makes,
      ),
    )

-- where there was no memory for its text nothing was asked
pub unbegun_event : {H : Type 0} (words : MachineWords H) (head : EventHead) (path : Option (List ℕ)) (bytes : List ℕ) (old : H)
    → path ≡ Some bytes → BeginsEvent words head path old old (Err fault.Memory)
unbegun_event words head None bytes old given = absurd (cc)
unbegun_event words head (Some path) bytes old given = (empty_members, inl (refl, refl))

-- an event whose file couldn't be made, at the paths that it has and with its members
pub unmade_event : {H : Type 0} (words : MachineWords H) (head : EventHead) (path : Option (List ℕ)) (bytes : List ℕ) (file : EventFile)
    (made : EventText) (old new : H) (why : EventFault) → path ≡ Some bytes → file.path ≡ bytes → file.part ≡ bytes ++ codes ".part"
    → made.file ≡ file.path → made.part ≡ file.part → made.text ≡ line_of (event_members file.event) → BeginsWith head (event_members file.event)
    → MakesEvent words (judged_beside head) made old new (Err why) → BeginsEvent words head path old new (Err why)
unmade_event words head None bytes file made old new why given is-path is-part file-is part-is text-is begins makes = absurd (cc)
unmade_event words head (Some path) bytes file made old new why given is-path is-part file-is part-is text-is begins makes =
    let same : bytes ≡ path = cc in
    let named : (file.path, file.part) ≡ paths_of path = (λ i. (is-path i, is-part i)) ∙ ap paths_of same in
    let is : made ≡ event_text_at (file.path, file.part) (event_members file.event) =
    λ i. record { file = file-is i; part = part-is i; text = text-is i } in (
      event_members file.event,
      inr (
        begins,
        subst (λ (e : EventText). MakesEvent words (judged_beside head) e old new (Err why))
            (is ∙ ap (λ (p : List ℕ × List ℕ). event_text_at p (event_members file.event)) named) makes,
      ),
    )

-- a file was replaced by the text of an event's end, if there was one
pub ends_so : {H : Type 0} (words : MachineWords H) (paths named : List ℕ × List ℕ) (says : List ℕ → Type 0)
    (text : Result (String Global) AllocError) (old new : H) (result : Result (Unit {0}) EventFault) → named ≡ paths
    → IfOk text (λ line. says (string_bytes line))
    → EndsFile words named (λ bytes. option_map string_bytes (result_ok text) ≡ Some bytes) old new result
    → EndsFile words paths says old new result
ends_so words paths named says text old new result same said (inl stops) = inl stops
ends_so words paths named says (Ok line) old new result same said (inr (bytes, is, replaces)) =
    let same_text : string_bytes line ≡ bytes = cc in
    inr (
      bytes,
      subst says same_text said,
      subst (λ (p : List ℕ × List ℕ). Replaces words (record { file = p.0; part = p.1; text = bytes }) old new result) same replaces,
    )
ends_so words paths named says (Err error) old new result same said (inr (bytes, is, replaces)) = absurd (cc)
