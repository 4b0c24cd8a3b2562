-- Opening a file, and reading it to its end.
use Rattle.std.proofs.Common.{
  ◌≡◌,
  ◌<◌,
  ◌≤◌,
  ◌+◌,
  ◌^◌,
  ℕ,
  Bool,
  true,
  false,
  cond,
  nat_lt,
  inl,
  List,
  [],
  ◌∷◌,
  refl,
  sym,
  ap,
  ◌∙◌,
  subst,
  arith,
  length,
  take,
  drop,
  max,
  min,
}
use Rattle.std.proofs.lemmas.Bool.{le-ltb, lt-ltb, ltb-false, ltb-true}
use Rattle.std.proofs.lemmas.List.Sums.{sum_by-cons}
use Rattle.std.proofs.lemmas.List.{length-append, take-append-drop}
use Rattle.std.specs.Option.{ForSome, option_map}
use Rattle.std.specs.List.{count_by, list_all}
use Rattle.std.specs.Prelude.{◌&&◌, IsSome, Option, None, Some, not, slice_index, slice_set, unwrap_or}
use Rattle.pt_check.specs.Counting.{counted_at, digits, plus, powers_of_ten, with_bytes, with_length, with_opened}
use Rattle.pt_check.specs.Visits.{GoesAt, Opens, CheckState, TellsIf, counting, size_trouble}
use Rattle.pt_check.specs.declared.numbers.Numbers.{Numbers}
use Rattle.pt_check.specs.declared.trouble.Trouble.{Trouble}
use Rattle.pt_check.specs.declared.trouble.Trouble.TheVariants as trouble
use Rattle.pt_check.specs.declared.within.Within.{Within}
use Rattle.pt_check.specs.declared.within.Within.TheVariants as within
use Rattle.pt_tree.specs.Failures.{greatest_count}
use Rattle.pt_tree.specs.Forest.{Forest, file_at}
use Rattle.pt_tree.specs.Path.{Path}
use Rattle.pt_walk.specs.Left.{bytes_at}
use Rattle.pt_tree.specs.Source.{Reading, CanOpen, CanRead, IsRead, after_next, after_open, tree_in}

-- a file may be opened where it stands in the tree that is told
pub may_open : (told : Option Reading) (path : Path) → ForSome (tree_in told) (λ tree. IsSome (file_at tree path)) → CanOpen told path
unfolding CanOpen
may_open told path there s is = there s.tree (ap tree_in is)

-- and where a block is read
pub next_stays : (old new : Option Reading) → new ≡ option_map after_next old → tree_in new ≡ tree_in old
next_stays None new is = ap tree_in is
next_stays (Some s) new is = ap tree_in is

-- and the file is open
pub is_opened : (old new : Option Reading) (path : Path) → ForSome (tree_in old) (λ tree. IsSome (file_at tree path)) → new ≡ option_map (after_open path) old
    → CanRead new
unfolding CanRead
is_opened None new path there is s told = absurd (cc)
is_opened (Some old) new path there is s told =
    let same : s ≡ after_open path old = cc in
    subst (λ (r : Reading). IsSome r.unread) (sym same) (there old.tree refl)

-- so many bytes of a file were read and counted: what is left
pub record Part (total : ℕ) (tree : Forest) (bytes : List ℕ) (now : Option Reading) : Type 0 where
  pub rest : List ℕ
  pub told : now ≡ Some (record { tree = tree; unread = Some rest })
  pub read : ℕ
  pub whole : length bytes ≡ read + length rest
  pub counted : total ≡ min read greatest_count

-- the same of the file that was open, where the source tells
abbrev pub ReadTo : ℕ → Option Reading → Option Reading → Type 0
ReadTo total old now = ForSome old (λ s. ForSome s.unread (λ bytes. Part total s.tree bytes now))

-- nothing is read yet
pub read_none : (old : Option Reading) → ReadTo 0 old old
read_none old s is bytes has = record {
  rest = bytes;
  told = is ∙ ap (λ (u : Option (List ℕ)). Some (record { tree = s.tree; unread = u })) has;
  read = 0;
  whole = omega arith;
  counted = refl;
}

some_is : (s : Reading) → IsSome s.unread → (bytes : List ℕ) × (s.unread ≡ Some bytes)
some_is s there = by s.unread there refl
  where
    by : (u : Option (List ℕ)) → IsSome u → s.unread ≡ u → (bytes : List ℕ) × (s.unread ≡ Some bytes)
    by None some is = absurd (cc)
    by (Some bytes) some is = (bytes, is)

-- what is read on may be read
pub may_read : (total : ℕ) (old now : Option Reading) → CanRead old → tree_in now ≡ tree_in old → ReadTo total old now → CanRead now
unfolding CanRead
may_read total None now can same to s is = absurd (cc)
may_read total (Some o) now can same to s is =
    let has = some_is o (can o refl) in
    let part = to o refl has.0 has.1 in
    let this : s ≡ record { tree = o.tree; unread = Some part.rest } = cc in
    subst (λ (r : Reading). IsSome r.unread) (sym this) refl

-- a block more
pub read_more : (total more : ℕ) (old now new : Option Reading) (block : List ℕ) → ReadTo total old now → IsRead now block → new ≡ option_map after_next now
    → more ≡ min (total + length block) greatest_count → ReadTo more old new
unfolding IsRead
read_more total more old now new block to is after adds s told bytes has =
    let part = to s told bytes has in
    let first : Some (take 8192 part.rest) ≡ Some block = is (record { tree = s.tree; unread = Some part.rest }) part.told in
    let block_is : take 8192 part.rest ≡ block = cc in
    let both : length part.rest ≡ length (take 8192 part.rest) + length (drop 8192 part.rest) =
    ap length (sym (take-append-drop 8192 part.rest)) ∙ length-append (take 8192 part.rest) (drop 8192 part.rest) in
    let long : length (take 8192 part.rest) ≡ length block = ap length block_is in
    let whole = part.whole in
    let counted = part.counted in
    record {
      rest = drop 8192 part.rest;
      told = after ∙ ap (option_map after_next) part.told;
      read = part.read + length block;
      whole = omega (arith, whole, both, long);
      counted = omega (arith, adds, counted);
    }

-- after an empty block all was read
pub read_all : (total : ℕ) (old now : Option Reading) (block : List ℕ) → ReadTo total old now → IsRead now block → length block ≡ 0
    → ForSome old (λ s. ForSome s.unread (λ bytes. total ≡ min (length bytes) greatest_count))
unfolding IsRead
read_all total old now block to is empty s told bytes has =
    let part = to s told bytes has in
    let first : Some (take 8192 part.rest) ≡ Some block = is (record { tree = s.tree; unread = Some part.rest }) part.told in
    let block_is : take 8192 part.rest ≡ block = cc in
    let long : length (take 8192 part.rest) ≡ length block = ap length block_is in
    let none : length part.rest ≡ 0 = nothing part.rest (long ∙ empty) in
    let whole = part.whole in
    let counted = part.counted in
    omega (arith, whole, counted, none)
  where
    nothing : (rest : List ℕ) → length (take 8192 rest) ≡ 0 → length rest ≡ 0
    nothing [] h = refl
    nothing (x ∷ rest) h = absurd (omega (arith, h))

-- and so it was after as many bytes as can be counted
pub read_most : (total : ℕ) (old now : Option Reading) → ReadTo total old now → greatest_count ≤ total
    → ForSome old (λ s. ForSome s.unread (λ bytes. total ≡ min (length bytes) greatest_count))
read_most total old now to most s told bytes has =
    let part = to s told bytes has in
    let whole = part.whole in
    let counted = part.counted in
    omega (arith, whole, counted, most)

-- the first block of a file that was just opened is its front
pub front_read : (old opened : Option Reading) (path : Path) (block : List ℕ) → ForSome (tree_in old) (λ tree. IsSome (file_at tree path))
    → opened ≡ option_map (after_open path) old
    → IsRead opened block → ForSome (tree_in old) (λ tree. block ≡ take 8192 (bytes_at tree path))
unfolding IsRead
front_read None opened path block there is read tree told = absurd (cc)
front_read (Some s) opened path block there is read tree told =
    let same : s.tree ≡ tree = cc in
    by (file_at tree path) refl (ap (λ (t : Forest). option_map (take 8192) (file_at t path)) (sym same) ∙ read (after_open path s) is) (there tree told)
  where
    by : (found : Option (List ℕ)) → file_at tree path ≡ found → option_map (take 8192) (file_at tree path) ≡ Some block → IsSome (file_at tree path)
        → block ≡ take 8192 (bytes_at tree path)
    by None none front some =
        let bad : IsSome {T = List ℕ} None = subst (λ (o : Option (List ℕ)). IsSome o) none some in
        absurd (cc)
    by (Some bytes) found front some =
        let whole : Some (take 8192 bytes) ≡ Some block = sym (ap (option_map (take 8192)) found) ∙ front in
        let is_front : take 8192 bytes ≡ block = cc in
        sym is_front ∙ sym (ap (λ (o : Option (List ℕ)). take 8192 (unwrap_or o [])) found)

-- ---- what is told of the bytes that were read

min_below : (m most n : ℕ) → m < most → nat_lt m (min n most) ≡ nat_lt m n
min_below m most n less = by (nat_lt m n) refl
  where
    by : (t : Bool) → nat_lt m n ≡ t → nat_lt m (min n most) ≡ t
    by true is = let over = ltb-true m n is in lt-ltb m (min n most) (omega (arith, over, less))
    by false is = let under = ltb-false m n is in le-ltb m (min n most) (omega (arith, under))

same_size : (n : ℕ) → size_trouble (min n greatest_count) ≡ size_trouble n
same_size n = ap (λ t. cond t (Some trouble.Large) None) (min_below (2 ^ 43) greatest_count n (ltb-true (2 ^ 43) greatest_count refl))

same_sum : (total n : ℕ) → plus total (min n greatest_count) ≡ plus total n
same_sum total n = omega arith

same_bytes : (here : Within) (n : ℕ) (numbers : Numbers) → with_bytes here (min n greatest_count) numbers ≡ with_bytes here n numbers
same_bytes (within.Object before) n numbers = λ i. record numbers {
  bytes = same_sum numbers.bytes n i;
  largest = max numbers.largest (same_sum numbers.held_bytes n i);
  held_bytes = same_sum numbers.held_bytes n i;
}
same_bytes (within.Site at) n numbers = ap (λ (k : ℕ). record numbers { bytes = k }) (same_sum numbers.bytes n)
same_bytes within.Past n numbers = ap (λ (k : ℕ). record numbers { bytes = k }) (same_sum numbers.bytes n)
same_bytes within.Beside n numbers = ap (λ (k : ℕ). record numbers { bytes = k }) (same_sum numbers.bytes n)

-- a number that can be counted to isn't greater than one, if it isn't greater than what is counted of that
not_below : (m most n : ℕ) → m ≤ most → nat_lt (min n most) m ≡ nat_lt n m
not_below m most n few = by (nat_lt n m) refl
  where
    by : (t : Bool) → nat_lt n m ≡ t → nat_lt (min n most) m ≡ t
    by true is = let under = ltb-true n m is in lt-ltb (min n most) m (omega (arith, under))
    by false is = let over = ltb-false n m is in le-ltb (min n most) m (omega (arith, over, few))

same_powers : (n most : ℕ) (powers : List ℕ) → list_all (λ power. not (nat_lt most power)) powers ≡ true
    → count_by (λ power. not (nat_lt (min n most) power)) powers ≡ count_by (λ power. not (nat_lt n power)) powers
same_powers n most [] few = refl
same_powers n most (power ∷ powers) few = by (nat_lt most power) refl few (λ rest. same_powers n most powers rest)
  where
    by : (t : Bool) → nat_lt most power ≡ t → (not t && list_all (λ p. not (nat_lt most p)) powers) ≡ true
        → (list_all (λ p. not (nat_lt most p)) powers ≡ true
        → count_by (λ p. not (nat_lt (min n most) p)) powers ≡ count_by (λ p. not (nat_lt n p)) powers)
        → count_by (λ p. not (nat_lt (min n most) p)) (power ∷ powers) ≡ count_by (λ p. not (nat_lt n p)) (power ∷ powers)
    by true is few same = absurd (cc)
    by false is few same =
        sum_by-cons (λ p. cond (not (nat_lt (min n most) p)) 1 0) power powers
        ∙ ap (λ (t : Bool). cond (not t) 1 0 + count_by (λ p. not (nat_lt (min n most) p)) powers) (not_below power most n (ltb-false most power is))
        ∙ ap (λ (k : ℕ). cond (not (nat_lt n power)) 1 0 + k) (same few)
        ∙ sym (sum_by-cons (λ p. cond (not (nat_lt n p)) 1 0) power powers)

same_digits : (n : ℕ) → digits (min n greatest_count) ≡ digits n
same_digits n = same_powers n greatest_count powers_of_ten refl

same_length : (n : ℕ) (numbers : Numbers) → with_length (min n greatest_count) numbers ≡ with_length n numbers
same_length n numbers = λ i. record numbers {
  files_of = counted_at (same_digits n i) 1 numbers.files_of;
  bytes_of = counted_as i;
}
  where
    counted_as : counted_at (digits (min n greatest_count)) (min n greatest_count) numbers.bytes_of ≡ counted_at (digits n) n numbers.bytes_of
    counted_as = ap (λ (d : ℕ). counted_at d (min n greatest_count) numbers.bytes_of) (same_digits n)
        ∙ ap (slice_set numbers.bytes_of (digits n)) (same_sum (slice_index numbers.bytes_of (digits n)) n)

same_opened : (here : Within) (n : ℕ) (numbers : Numbers) → with_opened true here (min n greatest_count) numbers ≡ with_opened true here n numbers
same_opened here n numbers = ap (with_length (min n greatest_count)) (same_bytes here n numbers) ∙ same_length n (with_bytes here n numbers)

-- a file was opened, its bytes counted up to the greatest number, and told if they are too many
pub opens_step : (top : Option Forest) (reads : Bool) (path : Path) (here : Within) (n : ℕ) (told : Option Trouble) (a m b : CheckState)
    → ForSome top (λ tree. n ≡ cond reads (min (length (bytes_at tree path)) greatest_count) 0) → told ≡ size_trouble n
    → m ≡ counting (with_opened reads here n) a
    → TellsIf path told m b → (reads ≡ true → n < greatest_count → GoesAt path a) → ForSome top (λ tree. Opens reads path here (bytes_at tree path) a b)
opens_step top reads path here n told a m b bytes told_is counted tells goes tree is =
    let start : TellsIf path told (counting (with_opened reads here n) a) b = subst (λ (s : CheckState). TellsIf path told s b) counted tells in
    let named : TellsIf path (size_trouble n) (counting (with_opened reads here n) a) b = subst
    (λ (o : Option Trouble). TellsIf path o (counting (with_opened reads here n) a) b) told_is start in
    by reads goes (bytes tree is) named
  where
    all : ℕ
    all = length (bytes_at tree path)

    by : (r : Bool) → (r ≡ true → n < greatest_count → GoesAt path a) → n ≡ cond r (min all greatest_count) 0
        → TellsIf path (size_trouble n) (counting (with_opened r here n) a) b → Opens r path here (bytes_at tree path) a b
    by true goes e it =
        let read : TellsIf path (size_trouble (min all greatest_count)) (counting (with_opened true here (min all greatest_count)) a) b =
        subst (λ (k : ℕ). TellsIf path (size_trouble k) (counting (with_opened true here k) a) b) e it in
        let sized : TellsIf path (size_trouble all) (counting (with_opened true here (min all greatest_count)) a) b =
        subst (λ (o : Option Trouble). TellsIf path o (counting (with_opened true here (min all greatest_count)) a) b) (same_size all) read in
        inl (
          subst (λ (n : Numbers). TellsIf path (size_trouble all) (record a { numbers = n }) b) (same_opened here all a.numbers) sized,
          (λ reads few. goes reads (omega (arith, e, few))),
        )
    by false goes e it = inl (subst (λ (k : ℕ). TellsIf path (size_trouble k) (counting (with_opened false here k) a) b) e it, (λ reads few. absurd (cc)))
