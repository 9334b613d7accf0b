-- What windows bring to a hub or a link, what is missing there, and what rows of it stand for, does not clash where the windows
-- do not collide.
use Rattle.dv_restore.proofs.Vocabulary.{Contains, Contains-append_cases, Contains-cons_cases, Contains-cons_here, Contains-cons_there, Contains-flat_map, Contains-nil, Delivery, HasNoClash, Hashed, Hashes, Hub, HubName, HubRow, IsApart, Key, Less, Link, LinkRow, List, Mapping, None, Parent}
use Rattle.dv_restore.proofs.Vocabulary.{TellLists, Window, [], all_missing, ap, appended, brought, collision_free, collision_in, deliveries, delivery-offered, delivery_kept, false≢true, flat_map, hashed_by, hashed_refs, hub_batch, hub_hashed, hub_row, hubs_in, hubs_of, inl, inr, irreflexive}
use Rattle.dv_restore.proofs.Vocabulary.{is_known, is_missing, keys_under, known_hashed, known_there, link_batch, link_hashed, link_row, list_all, list_told, map, map_member, missing_in, missing_refs, missing_table, offered_refs, parent_hubs, refl, refs_cmp, refs_total, reverse, stored}
use Rattle.dv_restore.proofs.Vocabulary.{stored_keys, subst, sym, true, ℕ, ◌++◌, ◌∙◌, ◌∷◌, ◌≡◌, ◌⊎◌}

-- two lists that are one do not clash
pub never_less : (refs other : List Key) → refs ≡ other → refs_cmp refs other ≡ Less → ⊥
never_less refs other same less = irreflexive refs_total refs (subst (λ list. refs_cmp refs list ≡ Less) (sym same) less)

-- one list alone does not clash
pub single_clear : (list : Hashed) → HasNoClash (list ∷ [])
single_clear list pair is = never_less pair.first pair.second (ap (λ (h : Hashed). h.refs) (one (record { digest = is.digest; refs = pair.first }) is.has_first ∙ sym (one (record { digest = is.digest; refs = pair.second }) is.has_second))) is.ordered
  where
    one : (entry : Hashed) → Contains (list ∷ []) entry → entry ≡ list
    one entry has =
        elim (Contains-cons_cases list [] entry has) [
          | inl same ↦ sym same
          | inr none ↦ absurd (Contains-nil entry none)
        ]

module _ (mapping : Mapping) (hashes : Hashes) (windows : List Window) (parent : Parent) (free : collision_in mapping hashes windows parent ≡ None) where
  apart : IsApart hashes (hashed_refs mapping windows parent)
  apart = (collision_free mapping hashes windows parent).0 free

  -- a list that the windows bring, or that is missing, under its hash key
  record IsListed (entry : Hashed) : Type 0 where
    listed : Contains (hashed_refs mapping windows parent) entry.refs
    digest_is : entry.digest ≡ hashes.hash entry.refs

  none_clash : (all : List Hashed) → ((entry : Hashed) → Contains all entry → IsListed entry) → HasNoClash all
  none_clash all each pair is =
      let first = each (record { digest = is.digest; refs = pair.first }) is.has_first in
      let second = each (record { digest = is.digest; refs = pair.second }) is.has_second in
      never_less pair.first pair.second (apart pair.first pair.second first.listed second.listed (sym first.digest_is ∙ second.digest_is)) is.ordered

  missing_listed : IsListed (hashed_by hashes (missing_refs mapping parent))
  missing_listed = record { listed = Contains-cons_here (missing_refs mapping parent) (flat_map (offered_refs mapping parent) windows); digest_is = refl }

  known_listed : (entry : Hashed) → is_known mapping parent (reverse windows) entry.refs ≡ true → entry.digest ≡ hashes.hash entry.refs → IsListed entry
  known_listed entry known digest = record { listed = known_hashed mapping hashes windows parent apart entry.refs known; digest_is = digest }

  -- what one of them brings
  module _ (window : Window) (there : Contains windows window) where
    item_listed : (item : Delivery) → Contains (deliveries mapping parent window) item → Contains (hashed_refs mapping windows parent) item.refs
    item_listed item has =
        Contains-cons_there (missing_refs mapping parent) (flat_map (offered_refs mapping parent) windows) item.refs
        (Contains-flat_map (offered_refs mapping parent) windows window item.refs there (delivery-offered mapping parent window item has))

    brought_listed : (entry : Hashed) → Contains (brought mapping hashes (deliveries mapping parent window)) entry → IsListed entry
    brought_listed entry = by (deliveries mapping parent window) refl
      where
        by : (items : List Delivery) → deliveries mapping parent window ≡ items → Contains (brought mapping hashes items) entry → IsListed entry
        by [] e has = absurd (Contains-nil entry has)
        by (first ∷ rest) e has =
            let (refs, member, is) = map_member (hashed_by hashes) (missing_in mapping first.table ∷ first.refs ∷ map (λ (other : Delivery). other.refs) rest) entry has in
            subst IsListed is (record { listed = among refs member; digest_is = refl })
          where
            within : (item : Delivery) → Contains (first ∷ rest) item → Contains (deliveries mapping parent window) item
            within item has = subst (λ items. Contains items item) (sym e) has

            missing_first : missing_in mapping first.table ≡ missing_refs mapping parent
            missing_first = ap (missing_in mapping) (delivery_kept mapping hashes parent window first (within first (Contains-cons_here first rest))).0 ∙ missing_table mapping parent

            among : (refs : List Key) → Contains (missing_in mapping first.table ∷ first.refs ∷ map (λ (other : Delivery). other.refs) rest) refs → Contains (hashed_refs mapping windows parent) refs
            among refs member =
                elim (Contains-cons_cases (missing_in mapping first.table) (map (λ (other : Delivery). other.refs) (first ∷ rest)) refs member) [
                  | inl same ↦ subst (λ list. Contains (hashed_refs mapping windows parent) list) (sym missing_first ∙ same) (Contains-cons_here (missing_refs mapping parent) (flat_map (offered_refs mapping parent) windows))
                  | inr more ↦
                      let (item, has, is) = map_member (λ (other : Delivery). other.refs) (first ∷ rest) refs more in
                      subst (λ list. Contains (hashed_refs mapping windows parent) list) is (item_listed item (within item has))
                ]

    -- with what is missing, and with lists of rows
    pub all_clear : (held : List Hashed) → ((entry : Hashed) → Contains held entry → (is_known mapping parent (reverse windows) entry.refs ≡ true) × (entry.digest ≡ hashes.hash entry.refs))
        → HasNoClash (hashed_by hashes (missing_refs mapping parent) ∷ (brought mapping hashes (deliveries mapping parent window) ++ held))
    all_clear held are = none_clash _ each
      where
        each : (entry : Hashed) → Contains (hashed_by hashes (missing_refs mapping parent) ∷ (brought mapping hashes (deliveries mapping parent window) ++ held)) entry → IsListed entry
        each entry has =
            elim (Contains-cons_cases (hashed_by hashes (missing_refs mapping parent)) (brought mapping hashes (deliveries mapping parent window) ++ held) entry has) [
              | inl same ↦ subst IsListed same missing_listed
              | inr more ↦
                  elim (Contains-append_cases (brought mapping hashes (deliveries mapping parent window)) held entry more) [
                    | inl now ↦ brought_listed entry now
                    | inr before ↦ known_listed entry (are entry before).0 (are entry before).1
                  ]
            ]

-- ---- hubs

-- the rows of a hub after windows, of which the others bring all
pub hub_clear : (mapping : Mapping) (hashes : Hashes) (hub : ℕ) (windows rows_of : List Window) (window : Window) → collision_in mapping hashes windows (Hub hub) ≡ None → Contains windows window
    → ((refs : List Key) → is_known mapping (Hub hub) rows_of refs ≡ true → is_known mapping (Hub hub) (reverse windows) refs ≡ true)
    → HasNoClash (hashed_by hashes (missing_refs mapping (Hub hub)) ∷ hub_hashed mapping hashes (appended (hub_batch mapping hashes hub) rows_of) (deliveries mapping (Hub hub) window))
hub_clear mapping hashes hub windows rows_of window free there more = all_clear mapping hashes windows (Hub hub) free window there (stored_keys (appended (hub_batch mapping hashes hub) rows_of)) are
  where
    are : (entry : Hashed) → Contains (stored_keys (appended (hub_batch mapping hashes hub) rows_of)) entry → (is_known mapping (Hub hub) (reverse windows) entry.refs ≡ true) × (entry.digest ≡ hashes.hash entry.refs)
    are entry has =
        let (row, member, is) = map_member (λ (row : HubRow). record { digest = row.digest; refs = row.key ∷ [] }) (appended (hub_batch mapping hashes hub) rows_of) entry has in
        let (known, digest) = hub_row mapping hub hashes rows_of row member in
        subst (λ (h : Hashed). (is_known mapping (Hub hub) (reverse windows) h.refs ≡ true) × (h.digest ≡ hashes.hash h.refs)) is (more (row.key ∷ []) known, digest)

-- ---- links

module _ (mapping : Mapping) (hashes : Hashes) (names : List HubName) (link : ℕ) (windows rows_of : List Window) (window : Window) (free : collision_in mapping hashes windows (Link link) ≡ None) (there : Contains windows window)
    (more : (refs : List Key) → is_known mapping (Link link) rows_of refs ≡ true → is_known mapping (Link link) (reverse windows) refs ≡ true) (tell : TellLists mapping hashes names rows_of) where
  abbrev rows : List LinkRow
  rows = appended (link_batch mapping hashes link) rows_of

  abbrev missing : List Key
  missing = missing_refs mapping (Link link)

  rows_known : (entry : Hashed) → Contains (stored mapping names (parent_hubs mapping (Link link)) rows) entry → (is_known mapping (Link link) (reverse windows) entry.refs ≡ true) × (entry.digest ≡ hashes.hash entry.refs)
  rows_known entry has =
      let (row, member, is) = map_member (λ (row : LinkRow). record { digest = row.digest; refs = keys_under mapping names (parent_hubs mapping (Link link)) row.hubs }) rows entry has in
      let (refs, known, digest, of_hubs) = link_row mapping link hashes rows_of row member in
      let list : refs ≡ keys_under mapping names (parent_hubs mapping (Link link)) row.hubs = sym (ap (keys_under mapping names (parent_hubs mapping (Link link))) of_hubs ∙ list_told mapping link hashes names rows_of tell refs known) in
      subst (λ (h : Hashed). (is_known mapping (Link link) (reverse windows) h.refs ≡ true) × (h.digest ≡ hashes.hash h.refs)) is
      (subst (λ refs. is_known mapping (Link link) (reverse windows) refs ≡ true) list (more refs known), digest ∙ ap hashes.hash list)

  -- a row stands under no hash key of what is missing
  never_missing : (row : LinkRow) → Contains rows row → row.digest ≡ hashes.hash missing → ⊥
  never_missing row member same =
      let (refs, known, digest, of_hubs) = link_row mapping link hashes rows_of row member in
      let one : refs ≡ missing =
      (collision_free mapping hashes windows (Link link)).0 free refs missing (known_hashed mapping hashes windows (Link link) ((collision_free mapping hashes windows (Link link)).0 free) refs (more refs known))
      (Contains-cons_here missing (flat_map (offered_refs mapping (Link link)) windows)) (sym digest ∙ same) in
      false≢true (sym (known_there mapping (Link link) rows_of refs known) ∙ ap (list_all is_missing) one ∙ all_missing mapping (parent_hubs mapping (Link link)))

  -- what a row stands for where nothing is brought
  abbrev IsBare : Hashed → Type 0
  IsBare entry = (row : LinkRow) × Contains rows row × (entry ≡ record { digest = row.digest; refs = [] })

  bare_clear : HasNoClash (hashed_by hashes missing ∷ stored mapping names [] rows)
  bare_clear pair is = by (sides (record { digest = is.digest; refs = pair.first }) is.has_first) (sides (record { digest = is.digest; refs = pair.second }) is.has_second)
    where
      sides : (entry : Hashed) → Contains (hashed_by hashes missing ∷ stored mapping names [] rows) entry → (entry ≡ hashed_by hashes missing) ⊎ IsBare entry
      sides entry has =
          elim (Contains-cons_cases (hashed_by hashes missing) (stored mapping names [] rows) entry has) [
            | inl same ↦ inl (sym same)
            | inr behind ↦
                let (row, member, made) = map_member (λ (row : LinkRow). record { digest = row.digest; refs = keys_under mapping names [] row.hubs }) rows entry behind in
                inr (row, member, sym made)
          ]

      by : (record { digest = is.digest; refs = pair.first } ≡ hashed_by hashes missing) ⊎ IsBare (record { digest = is.digest; refs = pair.first })
          → (record { digest = is.digest; refs = pair.second } ≡ hashed_by hashes missing) ⊎ IsBare (record { digest = is.digest; refs = pair.second }) → ⊥
      by (inl a) (inl b) = never_less pair.first pair.second (ap (λ (h : Hashed). h.refs) a ∙ sym (ap (λ (h : Hashed). h.refs) b)) is.ordered
      by (inr (row, member, a)) (inr (other, also, b)) = never_less pair.first pair.second (ap (λ (h : Hashed). h.refs) a ∙ sym (ap (λ (h : Hashed). h.refs) b)) is.ordered
      by (inl a) (inr (row, member, b)) = never_missing row member (sym (ap (λ (h : Hashed). h.digest) b) ∙ ap (λ (h : Hashed). h.digest) a)
      by (inr (row, member, a)) (inl b) = never_missing row member (sym (ap (λ (h : Hashed). h.digest) a) ∙ ap (λ (h : Hashed). h.digest) b)

  pub link_clear : HasNoClash (hashed_by hashes missing ∷ link_hashed mapping hashes names rows (deliveries mapping (Link link) window))
  link_clear = by (deliveries mapping (Link link) window) refl
    where
      by : (items : List Delivery) → deliveries mapping (Link link) window ≡ items → HasNoClash (hashed_by hashes missing ∷ link_hashed mapping hashes names rows (deliveries mapping (Link link) window))
      by [] e = subst (λ items. HasNoClash (hashed_by hashes missing ∷ link_hashed mapping hashes names rows items)) (sym e) bare_clear
      by (first ∷ rest) e =
          let member : Contains (deliveries mapping (Link link) window) first = subst (λ items. Contains items first) (sym e) (Contains-cons_here first rest) in
          let same : hubs_of mapping (deliveries mapping (Link link) window) ≡ parent_hubs mapping (Link link) = ap (hubs_of mapping) e ∙ ap (hubs_in mapping) (delivery_kept mapping hashes (Link link) window first member).0 in
          subst (λ hubs. HasNoClash (hashed_by hashes missing ∷ (brought mapping hashes (deliveries mapping (Link link) window) ++ stored mapping names hubs rows))) (sym same)
          (all_clear mapping hashes windows (Link link) free window there (stored mapping names (parent_hubs mapping (Link link)) rows) rows_known)
