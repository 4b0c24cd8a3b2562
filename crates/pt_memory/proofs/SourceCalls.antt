-- What a call of a source in memory gives is what the trait says.
use Rattle.std.proofs.Common.{◌≡◌, ℕ, ◌+◌, List, true, false, refl, sym, ◌∙◌, ap, arith, length, inl, inr}
use Rattle.std.specs.Prelude.{Bool, cond, take, drop, Option, None, Some, Result, Ok, Err, IfOk, OnOk, MatchResult}
use Rattle.std.specs.Option.{option_map, option_and_then}
use Rattle.std.proofs.lemmas.Bool.{cases_lt}
use Rattle.std.proofs.lemmas.List.{drop-drop, drop_all, length-take}
use Rattle.pt_tree.specs.declared.faults.TreeFault.{TreeFault}
use Rattle.pt_tree.specs.declared.faults.TreeFault.TheVariants.{Device, Memory}
use Rattle.pt_tree.specs.declared.kind.Kind.{Kind}
use Rattle.pt_tree.specs.Path.{Path}
use Rattle.pt_tree.specs.Listing.{Item}
use Rattle.pt_tree.specs.Forest.{Forest, file_at, kind_at, listing_at}
use Rattle.pt_memory.specs.Opening.{moved_on}
use Rattle.pt_memory.specs.Fuse.{is_blown}
use Rattle.pt_tree.specs.Source.{Reading, IsListed, IsRead, IsSeen, after_next, tree_in}
use Rattle.pt_memory.specs.MemSource.{SourceState, CallGives, KindGives, ListGives, NextGives, after_source_call, unread_of, reading_of}

is_listed : (s : Reading) (p : Path) (items : List Item) → listing_at s.tree p ≡ Some items → IsListed (Some s) p items
unfolding IsListed
is_listed s p items h = λ x e. let same : s ≡ x = cc in ap (λ (s : Reading). listing_at s.tree p) (sym same) ∙ h

pub listed : (old new : SourceState) (p : Path) (r : Result (List Item) TreeFault) → ListGives old new p r
    → IfOk r (λ items. IsListed (Some (reading_of old)) p items)
listed old new p r gives = by (is_blown old.fuse) (listing_at old.tree p) r refl gives
  where
    by : (t : Bool) (o : Option (List Item)) (r : Result (List Item) TreeFault) → listing_at old.tree p ≡ o
        → CallGives t old new o r (λ items. (new ≡ after_source_call old) × MatchResult r (λ listing. listing ≡ items) (λ e. e ≡ Memory))
        → IfOk r (λ items. IsListed (Some (reading_of old)) p items)
    by t o (Err e) at g = tt
    by true o (Ok items) at g = absurd (cc)
    by false None (Ok items) at g = absurd (cc)
    by false (Some found) (Ok items) at g = is_listed (reading_of old) p items (at ∙ ap (λ (l : List Item). Some l) (sym g.1))

pub seen : (old new : SourceState) (p : Path) (r : Result (Option Kind) TreeFault) → KindGives old new p r
    → IfOk r (λ here. IsSeen (tree_in (Some (reading_of old))) p here)
seen old new p r gives = rw gives.answer (by (is_blown old.fuse))
  where
    by : (t : Bool) → IfOk {E = TreeFault} (cond t (Err Device) (Ok (kind_at old.tree p))) (λ here. IsSeen (Some old.tree) p here)
    by true = tt
    by false = λ f is. let same : old.tree ≡ f = cc in ap (λ (f : Forest). kind_at f p) (sym same)

is_read : (s : Reading) (bytes block : List ℕ) → s.unread ≡ Some bytes → block ≡ take 8192 bytes → IsRead (Some s) block
unfolding IsRead
is_read s bytes block h b = λ x e. let same : s ≡ x = cc in ap (λ (s : Reading). option_map (take 8192) s.unread) (sym same) ∙ ap (option_map (take 8192)) h
    ∙ ap (λ (l : List ℕ). Some l) (sym b)

pub read : (old new : SourceState) (block : List ℕ) (r : Result (Unit {0}) TreeFault) → NextGives old new block r
    → OnOk r (IsRead (Some (reading_of old)) block)
read old new block r gives = by (is_blown old.fuse) (unread_of old) r refl gives
  where
    by : (t : Bool) (o : Option (List ℕ)) (r : Result (Unit {0}) TreeFault) → unread_of old ≡ o
        → CallGives t old new o r (λ bytes. (r ≡ Ok tt) × (block ≡ take 8192 bytes)
        × (new ≡ record (after_source_call old) { reading = moved_on old.reading (length block) }))
        → OnOk r (IsRead (Some (reading_of old)) block)
    by t o (Err e) at g = tt
    by true o (Ok u) at g = absurd (cc)
    by false None (Ok u) at g = absurd (cc)
    by false (Some bytes) (Ok u) at g = is_read (reading_of old) bytes block at g.1

-- past a block of what is left, as past 8,192 bytes of it
past_block : (k : ℕ) (b : List ℕ) → drop (k + length (take 8192 (drop k b))) b ≡ drop 8192 (drop k b)
past_block k b = sym (drop-drop (length (take 8192 (drop k b))) k b) ∙ elim (cases_lt 8192 (length (drop k b))) [
  | inl more ↦ let all : length (take 8192 (drop k b)) ≡ 8192 = omega (arith, length-take 8192 (drop k b)) in ap (λ n. drop n (drop k b)) all
  | inr last ↦ drop_all (length (take 8192 (drop k b))) (drop k b) (omega (arith, length-take 8192 (drop k b))) ∙ sym (drop_all 8192 (drop k b) last)
]

-- what is left of the open file is what is left behind the block
pub unread_moved : (old : SourceState) (bytes block : List ℕ) → unread_of old ≡ Some bytes → block ≡ take 8192 bytes
    → unread_of (record (after_source_call old) { reading = moved_on old.reading (length block) }) ≡ option_map (drop 8192) (unread_of old)
unread_moved old bytes block is b = by old.reading is
  where
    at : (o : Path × ℕ) (held : Option (List ℕ)) → option_map (drop o.1) held ≡ Some bytes
        → option_map (drop (o.1 + length block)) held ≡ option_map (drop 8192) (option_map (drop o.1) held)
    at o None h = absurd (cc)
    at o (Some held) h =
        let same : drop o.1 held ≡ bytes = cc in
        ap (λ (l : List ℕ). Some l) (ap (λ (l : List ℕ). drop (o.1 + length l) held) (b ∙ ap (take 8192) (sym same)) ∙ past_block o.1 held)

    by : (r : Option (Path × ℕ)) → option_and_then (λ (o : Path × ℕ). option_map (drop o.1) (file_at old.tree o.0)) r ≡ Some bytes
        → option_and_then (λ (o : Path × ℕ). option_map (drop o.1) (file_at old.tree o.0)) (moved_on r (length block))
        ≡ option_map (drop 8192) (option_and_then (λ (o : Path × ℕ). option_map (drop o.1) (file_at old.tree o.0)) r)
    by None h = absurd (cc)
    by (Some o) h = at o (file_at old.tree o.0) h

pub moved : (old new : SourceState) (block : List ℕ) (r : Result (Unit {0}) TreeFault) → NextGives old new block r
    → OnOk r (Some (reading_of new) ≡ option_map after_next (Some (reading_of old)))
moved old new block r gives = by (is_blown old.fuse) (unread_of old) r refl gives
  where
    by : (t : Bool) (o : Option (List ℕ)) (r : Result (Unit {0}) TreeFault) → unread_of old ≡ o
        → CallGives t old new o r (λ bytes. (r ≡ Ok tt) × (block ≡ take 8192 bytes)
        × (new ≡ record (after_source_call old) { reading = moved_on old.reading (length block) }))
        → OnOk r (Some (reading_of new) ≡ option_map after_next (Some (reading_of old)))
    by t o (Err e) at g = tt
    by true o (Ok u) at g = absurd (cc)
    by false None (Ok u) at g = absurd (cc)
    by false (Some bytes) (Ok u) at g =
        ap (λ (s : SourceState). Some (reading_of s)) g.2
        ∙ ap (λ u. Some (record { tree = old.tree; unread = u })) (unread_moved old bytes block at g.1)
