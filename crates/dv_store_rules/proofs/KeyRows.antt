-- The rows of the table of a hub or a link, for any kind of row that is made of a delivery: their load dates, sources and
-- order, and that no two have one hash key.
use Rattle.dv_store_rules.proofs.Vocabulary.{Bool, Contains, Contains-append_cases, Delivery, Hub, IsApart, IsStrictlySortedBy, IsTotalOrder, Known, Less, Link, List, Option, Ordering, Parent, Place, Some, Window, ap, appended, ascending-sorted_by, batch_made, batch_of, bytes_eq}
use Rattle.dv_store_rules.proofs.Vocabulary.{bytes_eq-Decides, deliveries, delivery-offered, digest_cmp, false, false≢true, filter_map, follows, hashed_refs, hub_apart, inl, inr, irreflexive, is_digest, is_known, is_loaded, is_new_digest, is_offered, is_offered-member, is_source, is_window}
use Rattle.dv_store_rules.proofs.Vocabulary.{known_apart, length, link_apart, load_order, nat_list_cmp_total, newest_first, none_pass, not, on_total, parent_hubs, passes_at, refl, reverse, reverse_member, some_passes_at, source, subst, sym, true, whole, ℕ, ◌∙◌, ◌≡◌}
use Rattle.dv_store_rules.proofs.{Around.Around, Around.is_wide, Around.loaded_with, Around.sourced_from, BatchRows.IsOfBatch, BatchRows.event_in, BatchRows.follows_them, BatchRows.in_batch, BatchRows.of_batch, BatchRows.older_in, Brought.IsFrom, Brought.IsOfRow, Brought.delivery_from}
use Rattle.dv_store_rules.proofs.{Brought.hub_declared, Brought.keys_of_hubs, Brought.link_declared, FewerWindows.known_more, Splits.less_before, Splits.parted_at}

-- each row of a table is of a batch
in_some_batch : {E R : Type 0} (batch : List E → E → List R) (events : List E) (row : R) → Contains (appended batch events) row → (newest : E) × (older : List E) × Contains events newest × Contains (batch older newest) row
in_some_batch batch events row has =
    let (before, after, e) = parted_at (appended batch events) row has in
    let is = of_batch batch events before row after e in
    (is.newest, is.older, event_in batch events before row is, in_batch batch events before row is)

-- a digest that none of the rows before has is new
is_new : {R : Type 0} (digest_of : R → List ℕ) (before : List R) (digest : List ℕ) → ((other : R) → Contains before other → digest_of other ≡ digest → ⊥) → is_new_digest digest_of before digest ≡ true
is_new digest_of before digest none =
    ap not (none_pass (λ other. bytes_eq (digest_of other) digest) before (λ other has. by other has (bytes_eq (digest_of other) digest) refl))
  where
    by : (other : _) → Contains before other → (b : Bool) → bytes_eq (digest_of other) digest ≡ b → bytes_eq (digest_of other) digest ≡ false
    by other has true e = absurd (none other has ((bytes_eq-Decides (digest_of other) digest).0 e))
    by other has false e = e

digest_total : {R : Type 0} (digest_of : R → List ℕ) → IsTotalOrder (λ a b. digest_cmp (digest_of a) (digest_of b))
digest_total digest_of = on_total digest_of nat_list_cmp_total

-- digests in strict order differ
pub digests_differ : (a b : List ℕ) → digest_cmp a b ≡ Less → a ≡ b → ⊥
digests_differ a b less same = irreflexive nat_list_cmp_total b (subst (λ d. digest_cmp d b ≡ Less) same less)

-- Own is what a row has of the delivery besides
module _ {R : Type 0} (known : Known) (parent : Parent) (place : R → Place) (source_of : R → List ℕ) (Own : Delivery → R → Type 0) where
  abbrev pub digest_of : R → List ℕ
  digest_of row = (place row).parent

  abbrev pub load_of : R → ℕ
  load_of row = (place row).load

  -- rows by their hash keys
  abbrev pub hash_cmp : R → R → Ordering
  hash_cmp a b = digest_cmp (digest_of a) (digest_of b)

  -- what a row is made of
  pub record IsMade (older : List Window) (window : Window) (item : Delivery) (row : R) : Type 0 where
    pub new : is_known known.mapping parent older item.refs ≡ false
    pub digest : digest_of row ≡ known.hashes.hash item.refs
    pub load : load_of row ≡ window.load
    pub source : source_of row ≡ source known.mapping item.feed
    pub own : Own item row

  module _ (row_of : List Window → Window → Delivery → Option R) (made : (older : List Window) (window : Window) (item : Delivery) (row : R) → row_of older window item ≡ Some row → IsMade older window item row) where
    -- a window's batch
    abbrev pub batch : List Window → Window → List R
    batch older window = batch_of hash_cmp (row_of older window) (deliveries known.mapping parent window)

    module _ (windows : List Window) (around : Around known windows) (before : List R) (row : R) (is : IsOfBatch batch (reverse windows) before row) where
      -- the row's window is one of them
      window_in : Contains windows is.newest
      window_in = (reverse_member windows is.newest).0 (event_in batch (reverse windows) before row is)

      window_whole : is_window known.mapping is.newest ≡ true
      window_whole = passes_at (is_window known.mapping) windows is.newest (whole known.mapping known.hashes windows around.valid) window_in

      -- the delivery that the row is made of
      pub record Origin : Type 0 where
        pub item : Delivery
        pub delivered : Contains (deliveries known.mapping parent is.newest) item
        pub gives : row_of is.older is.newest item ≡ Some row
        pub from : IsFrom known.mapping parent is.newest item

      origin : Origin
      origin =
          let (item, delivered, gives) = batch_made hash_cmp (row_of is.older is.newest) (deliveries known.mapping parent is.newest) row (in_batch batch (reverse windows) before row is) in
          record { item = item; delivered = delivered; gives = gives; from = delivery_from known.mapping parent is.newest window_whole item delivered }

      is_made : IsMade is.older is.newest origin.item row
      is_made = made is.older is.newest origin.item row origin.gives

      -- a hub or a link that has rows has hash keys of its own
      own_keys : IsApart known.hashes (hashed_refs known.mapping windows parent)
      own_keys = by parent origin.from.of_row
        where
          by : (p : Parent) → IsOfRow known.mapping p origin.from.definition origin.from.row origin.item.refs → IsApart known.hashes (hashed_refs known.mapping windows p)
          by (Hub hub) of =
              hub_apart known.mapping known.hashes windows around.valid hub
              (hub_declared known.mapping around.mapping_valid origin.from.staged.feed origin.from.definition origin.from.got hub (keys_of_hubs hub (parent_hubs known.mapping origin.from.definition.parent) origin.from.row.refs of.0 of.1))
          by (Link link) of =
              link_apart known.mapping known.hashes windows around.valid link
              (link_declared known.mapping around.mapping_valid origin.from.staged.feed origin.from.definition origin.from.got link of.0)

      row_wide : is_digest known.width (digest_of row) ≡ true
      row_wide = is_wide known.width (digest_of row) (ap length is_made.digest ∙ around.wide.hash origin.item.refs)

      row_loaded : is_loaded known.heads (load_of row) ≡ true
      row_loaded = loaded_with known windows around is.newest window_in (load_of row) is_made.load

      row_sourced : is_source known.mapping (source_of row) ≡ true
      row_sourced = sourced_from known.mapping origin.from.staged.feed origin.from.definition origin.from.got (source_of row) (is_made.source ∙ ap (source known.mapping) (sym origin.from.number))

      stamped : (older : List Window) (newest : Window) (other : R) → Contains (batch older newest) other → load_of other ≡ newest.load
      stamped older newest other has =
          let (item, delivered, gives) = batch_made hash_cmp (row_of older newest) (deliveries known.mapping parent newest) other has in
          (made older newest item other gives).load

      row_follows : follows load_of hash_cmp before row ≡ true
      row_follows =
          follows_them (λ (window : Window). window.load) load_of hash_cmp batch stamped
          (λ older newest. ascending-sorted_by hash_cmp (digest_total digest_of) (filter_map (row_of older newest) (deliveries known.mapping parent newest)))
          (reverse windows) (newest_first (λ (window : Window). window.load) windows (load_order known.mapping known.hashes windows around.valid)) before row is

      -- what a window among them brings is known
      delivered_known : (some : List Window) (window : Window) (item : Delivery) → Contains some window → Contains (deliveries known.mapping parent window) item → is_known known.mapping parent some item.refs ≡ true
      delivered_known some window item there delivered =
          some_passes_at (λ window. is_offered known.mapping parent window item.refs) some window there
          (is_offered-member known.mapping parent window item.refs (delivery-offered known.mapping parent window item delivered))

      -- the row's list is
      row_known : is_known known.mapping parent (reverse windows) origin.item.refs ≡ true
      row_known = delivered_known (reverse windows) is.newest origin.item (event_in batch (reverse windows) before row is) origin.delivered

      -- no row before it has its hash key
      differs : (other : R) → Contains before other → digest_of other ≡ digest_of row → ⊥
      differs other has same =
          elim (Contains-append_cases (appended batch is.older) is.between other (subst (λ rows. Contains rows other) is.before_are has)) [
            | inl earlier ↦
                let (newest, older, there, has_other) = in_some_batch batch is.older other earlier in
                let (item, delivered, gives) = batch_made hash_cmp (row_of older newest) (deliveries known.mapping parent newest) other has_other in
                let old_known = delivered_known is.older newest item there delivered in
                let all_known = known_more known.mapping parent is.older (reverse windows) (older_in batch (reverse windows) before row is) item.refs old_known in
                let alike : known.hashes.hash item.refs ≡ known.hashes.hash origin.item.refs = sym (made older newest item other gives).digest ∙ same ∙ is_made.digest in
                let one : item.refs ≡ origin.item.refs = known_apart known.mapping known.hashes windows parent own_keys item.refs origin.item.refs all_known row_known alike in
                false≢true (sym is_made.new ∙ subst (λ refs. is_known known.mapping parent is.older refs ≡ true) one old_known)
            | inr between ↦
                let up = ascending-sorted_by hash_cmp (digest_total digest_of) (filter_map (row_of is.older is.newest) (deliveries known.mapping parent is.newest)) in
                let less = less_before hash_cmp is.between row is.after (subst (IsStrictlySortedBy hash_cmp) is.batch_is up) other between in
                digests_differ (digest_of other) (digest_of row) less same
          ]

      row_new : is_new_digest digest_of before (digest_of row) ≡ true
      row_new = is_new digest_of before (digest_of row) differs

      -- what holds of the row, whatever its kind
      pub record KeyFacts : Type 0 where
        pub of : Origin
        pub row_is : IsMade is.older is.newest of.item row
        pub apart : IsApart known.hashes (hashed_refs known.mapping windows parent)
        pub wide : is_digest known.width (digest_of row) ≡ true
        pub loaded : is_loaded known.heads (load_of row) ≡ true
        pub ordered : follows load_of hash_cmp before row ≡ true
        pub sourced : is_source known.mapping (source_of row) ≡ true
        pub brought : is_known known.mapping parent (reverse windows) of.item.refs ≡ true
        pub new : is_new_digest digest_of before (digest_of row) ≡ true

      -- it does where the rows are of a hub's or a link's table
      pub key_facts : KeyFacts
      key_facts = record { of = origin; row_is = is_made; apart = own_keys; wide = row_wide; loaded = row_loaded; ordered = row_follows; sourced = row_sourced; brought = row_known; new = row_new }
