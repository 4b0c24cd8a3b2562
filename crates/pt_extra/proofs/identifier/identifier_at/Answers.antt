use Rattle.std.proofs.Common.{ap, sym, List, ℕ, None, Some, ◌∷◌, [], ◌++◌, ◌≡◌, ◌∙◌}
use Rattle.std.specs.Option.{option_map}
use Rattle.std.specs.Global.{Vec}
use Rattle.pt_extra.proofs.Reading.{id_read, may_open, no_inventory, opened_reads}
use Rattle.pt_object.specs.WellKnown.{known_text}
use Rattle.pt_object.specs.declared.well_known.WellKnownName.TheVariants as known
use Rattle.pt_plan.specs.TurnStart.{is_file_kind, kind_in}
use Rattle.pt_extra.proofs.identifier.identifier_at.Goals as goal

pub open-requires : goal.open-requires
open-requires g c =
    let path_is : c.in_ok-path.path ≡ c.args.folder.now ++ known_text known.Inventory ∷ [] =
    c.in_ok-path.ensures ∙ ap (λ (n : List ℕ). c.args.folder.now ++ n ∷ []) c.in_ok-name.ensures in
    let is : c.is_file.result ≡ is_file_kind (kind_in c.args.listing.now (known_text known.Inventory)) =
    c.is_file.ensures ∙ ap is_file_kind (c.kind_in.ensures ∙ ap (λ (n : List ℕ). kind_in c.args.listing.now n) (c.as_bytes.ensures.value ∙ c.text.ensures)) in
    may_open (g.R.Source.told c.args.root.now) c.args.folder.now c.in_ok-path.path c.args.listing.now c.requires path_is (sym is ∙ c.if-not-is_file.false)

pub read_whole-requires : goal.read_whole-requires
read_whole-requires g c =
    let path_is : c.in_ok-path.path ≡ c.args.folder.now ++ known_text known.Inventory ∷ [] =
    c.in_ok-path.ensures ∙ ap (λ (n : List ℕ). c.args.folder.now ++ n ∷ []) c.in_ok-name.ensures in
    let is : c.is_file.result ≡ is_file_kind (kind_in c.args.listing.now (known_text known.Inventory)) =
    c.is_file.ensures ∙ ap is_file_kind (c.kind_in.ensures ∙ ap (λ (n : List ℕ). kind_in c.args.listing.now n) (c.as_bytes.ensures.value ∙ c.text.ensures)) in
    opened_reads (g.R.Source.told c.args.root.now) (g.R.Source.told c.open.new.self) c.in_ok-path.path
    (may_open (g.R.Source.told c.args.root.now) c.args.folder.now c.in_ok-path.path c.args.listing.now c.requires path_is (sym is ∙ c.if-not-is_file.false))
    c.in_ok-open.ensures.opened

pub returns-then-not-is_file-clause-id : goal.returns-then-not-is_file-clause-id
returns-then-not-is_file-clause-id g c = λ tree told.
    let is : c.is_file.result ≡ is_file_kind (kind_in c.args.listing.now (known_text known.Inventory)) =
    c.is_file.ensures ∙ ap is_file_kind (c.kind_in.ensures ∙ ap (λ (n : List ℕ). kind_in c.args.listing.now n) (c.as_bytes.ensures.value ∙ c.text.ensures)) in
    no_inventory tree c.args.folder.now c.args.listing.now (c.requires tree told) (sym is ∙ c.if-not-is_file.true)

pub returns-in-Some-clause-id : goal.returns-in-Some-clause-id
returns-in-Some-clause-id g c = λ tree told.
    let path_is : c.in_ok-path.path ≡ c.args.folder.now ++ known_text known.Inventory ∷ [] =
    c.in_ok-path.ensures ∙ ap (λ (n : List ℕ). c.args.folder.now ++ n ∷ []) c.in_ok-name.ensures in
    let is : c.is_file.result ≡ is_file_kind (kind_in c.args.listing.now (known_text known.Inventory)) =
    c.is_file.ensures ∙ ap is_file_kind (c.kind_in.ensures ∙ ap (λ (n : List ℕ). kind_in c.args.listing.now n) (c.as_bytes.ensures.value ∙ c.text.ensures)) in
    c.identifier_in.ensures.id
    ∙ id_read (g.R.Source.told c.args.root.now) (g.R.Source.told c.open.new.self) c.args.folder.now c.in_ok-path.path c.args.listing.now
    (Some c.in-Some.bytes.items) c.requires path_is (sym is ∙ c.if-not-is_file.false)
    c.in_ok-open.ensures.opened (λ left l. ap (option_map (λ (b : Vec ℕ). b.items)) (sym c.in-Some.is) ∙ c.in_ok-bytes.ensures.bytes left l) tree told

pub returns-clause-id : goal.returns-clause-id
returns-clause-id g c = λ tree told.
    let path_is : c.in_ok-path.path ≡ c.args.folder.now ++ known_text known.Inventory ∷ [] =
    c.in_ok-path.ensures ∙ ap (λ (n : List ℕ). c.args.folder.now ++ n ∷ []) c.in_ok-name.ensures in
    let is : c.is_file.result ≡ is_file_kind (kind_in c.args.listing.now (known_text known.Inventory)) =
    c.is_file.ensures ∙ ap is_file_kind (c.kind_in.ensures ∙ ap (λ (n : List ℕ). kind_in c.args.listing.now n) (c.as_bytes.ensures.value ∙ c.text.ensures)) in
    id_read (g.R.Source.told c.args.root.now) (g.R.Source.told c.open.new.self) c.args.folder.now c.in_ok-path.path c.args.listing.now None c.requires path_is
    (sym is ∙ c.if-not-is_file.false)
    c.in_ok-open.ensures.opened (λ left l. ap (option_map (λ (b : Vec ℕ). b.items)) (sym c.in-None.is) ∙ c.in_ok-bytes.ensures.bytes left l) tree told
