-- What a call of a source in memory gives.
use Rattle.std.proofs.Common.{◌≡◌, ℕ, List, true, false, refl, sym, ◌∙◌, ap, subst}
use Rattle.std.specs.Prelude.{Bool, cond, drop, length, Option, None, Some, is_some, Result, Ok, Err}
use Rattle.std.specs.Option.{option_map, option_and_then}
use Rattle.std.proofs.lemmas.Bool.{true≢false}
use Rattle.pt_tree.specs.declared.faults.TreeFault.{TreeFault}
use Rattle.pt_tree.specs.declared.faults.TreeFault.TheVariants.{Device}
use Rattle.pt_memory.specs.declared.fuse.Fuse.{Fuse}
use Rattle.pt_memory.specs.declared.entries.Entries.{Entries}
use Rattle.pt_tree.specs.Path.{Path}
use Rattle.pt_tree.specs.Forest.{Forest, file_at, is_proper}
use Rattle.pt_memory.specs.Entries.{forest_of, open_of, marked_of}
use Rattle.pt_memory.specs.Opening.{opened, block_after, moved_on}
use Rattle.pt_memory.specs.Fuse.{is_blown, fuse_answer}
use Rattle.pt_memory.specs.MemSource.{SourceState, CallGives, OpenGives, NextGives, after_source_call, unread_of}
use Rattle.pt_memory.proofs.Opened.{opened-file, is_marked}

pub passed : (f : Fuse) → Ok (tt {0}) ≡ fuse_answer f → is_blown f ≡ false
passed f h = by (is_blown f) h
  where
    by : (t : Bool) → Ok (tt {0}) ≡ cond t (Err Device) (Ok (tt {0})) → t ≡ false
    by true h = absurd (cc)
    by false h = refl

gives_found : {T X : Type 0} (blown : Bool) (old new : SourceState) (needed : Option X) (result : Result T TreeFault) (P : X → Type 0) (x : X) → blown ≡ false
    → needed ≡ Some x → P x → CallGives blown old new needed result P
gives_found true old new needed result P x passes is p = absurd (true≢false passes)
gives_found false old new None result P x passes is p = absurd (cc)
gives_found false old new (Some y) result P x passes is p = let same : x ≡ y = cc in subst P same p

pub open_gives : (old mid new : SourceState) (path : Path) (bytes : List ℕ) → is_blown old.fuse ≡ false → mid ≡ after_source_call old
    → file_at old.tree path ≡ Some bytes → new ≡ record mid { reading = opened old.tree path } → OpenGives old new path (Ok tt)
open_gives old mid new path bytes passes called found is =
    gives_found (is_blown old.fuse) old new (file_at old.tree path) (Ok tt) _ bytes passes found (
      refl,
      is ∙ ap (λ (s : SourceState). record s { reading = opened old.tree path }) called
          ∙ ap (λ o. record (after_source_call old) { reading = o }) (opened-file old.tree path (ap is_some found)),
    )

pub next_gives : (old mid new : SourceState) (e : Entries) (block before : List ℕ) → is_blown old.fuse ≡ false → mid ≡ after_source_call old
    → is_proper (forest_of e) ≡ true → forest_of e ≡ old.tree → open_of e ≡ old.reading → true ≡ is_some (open_of e) → block ≡ block_after (marked_of e) before
    → new ≡ record mid { reading = moved_on (open_of e) (length block) } → NextGives old new block (Ok tt)
next_gives old mid new e block before passes called proper tree reading is_open gives is = by (open_of e) refl is_open
  where
    by : (o : Option (Path × ℕ)) → open_of e ≡ o → true ≡ is_some o → NextGives old new block (Ok tt)
    by None at is_open = absurd (cc)
    by (Some o) at is_open =
        let m = is_marked e o proper at in
        let unread : unread_of old ≡ Some (drop o.1 m.bytes) =
        ap (λ r. option_and_then (λ (o : Path × ℕ). option_map (drop o.1) (file_at old.tree o.0)) r) (sym reading ∙ at)
        ∙ ap (λ (f : Forest). option_map (drop o.1) (file_at f o.0)) (sym tree) ∙ ap (option_map (drop o.1)) m.found in
        gives_found (is_blown old.fuse) old new (unread_of old) (Ok tt) _ (drop o.1 m.bytes) passes unread (
          refl,
          gives ∙ ap (λ k. block_after k before) m.marked,
          is ∙ ap (λ (s : SourceState). record s { reading = moved_on (open_of e) (length block) }) called
              ∙ ap (λ r. record (after_source_call old) { reading = moved_on r (length block) }) reading,
        )
