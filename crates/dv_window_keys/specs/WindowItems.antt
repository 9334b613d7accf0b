-- The items of a window's keys: the reference lists that its rows bring to hubs and links.
use Rattle.std.specs.Prelude.{◌≡◌, ℕ, ◌+◌, ◌*◌, ◌%◌, ◌<◌, ◌≤◌, ◌⊎◌, ◌&&◌, All, Bool, false, List, [], ◌∷◌, ◌++◌, Option, Some, None, fold, if◌then◌else◌, map, slice_get}
use Rattle.std.specs.List.{filter_map, flat_map, list_all, position_or_len}
use Rattle.dv_text.specs.declared.rows.Key.{Key}
use Rattle.dv_text.specs.declared.rows.NRow.{NRow}
use Rattle.dv_text.specs.declared.rows.Staged.{Staged}
use Rattle.dv_text.specs.declared.rows.Window.{Window}
use Rattle.dv_text.specs.Keys.{Hashes, is_missing, refs_eq}
use Rattle.dv_board.specs.Counting.{times}
use Rattle.dv_board.specs.KeyTables.{AreLeastOffered, Offerer}
use Rattle.dv_board.specs.declared.views.Keys.{Keys}
use Rattle.dv_catalog.specs.declared.entries.FeedDef.{FeedDef}
use Rattle.dv_catalog.specs.declared.entries.Parent.{Parent}
use Rattle.dv_catalog.specs.declared.entries.Parent.TheVariants.{Hub, Link}
use Rattle.dv_catalog.specs.Entries.{Mapping}
use Rattle.dv_catalog.specs.Feeds.{feed_hubs, parent_eq}
use Rattle.dv_window_keys.specs.Offered.{IsKeyOf, told_by}
use Rattle.dv_window_keys.specs.declared.offers.Offer.{Offer}
use Rattle.dv_window_keys.specs.declared.kept_items.KeptKeys.{KeptKeys}
use Rattle.dv_window_keys.specs.declared.offered_items.ItemRange.{ItemRange}
use Rattle.dv_window_keys.specs.declared.items.Mixing.{Mixing}
use Rattle.dv_window_keys.specs.declared.items.WindowItem.{WindowItem}

-- a reference list that a row of a feed brings to a hub or a link
pub record Item : Type 0 where
  pub parent : Parent
  pub refs : List Key
  pub feed : ℕ

abbrev pub item_of : WindowItem → Item
item_of item = record { parent = item.parent; refs = item.offer.refs.now; feed = item.offer.feed }

-- ---- the items in the order of their numbers

-- the keys of a row's references, each as a list of one for its hub
abbrev pub hub_items : ℕ → List ℕ → List Key → List Item
hub_items feed [] refs = []
hub_items feed (hub ∷ hubs) [] = []
hub_items feed (hub ∷ hubs) (key ∷ refs) = record { parent = Hub hub; refs = key ∷ []; feed = feed } ∷ hub_items feed hubs refs

-- the link to which a feed delivers; none where it delivers to a hub
abbrev pub link_in : Parent → Option ℕ
link_in (Hub hub) = None
link_in (Link link) = Some link

abbrev pub link_by : Option FeedDef → Option ℕ
link_by None = None
link_by (Some feed) = link_in feed.parent

-- a row's reference list for the link of its feed, where it has one
abbrev pub link_items : ℕ → Option ℕ → List Key → List Item
link_items feed None refs = []
link_items feed (Some link) refs = record { parent = Link link; refs = refs; feed = feed } ∷ []

-- the items of a row: its references, and behind them the link's own
abbrev pub row_items : Mapping → ℕ → NRow → List Item
row_items mapping feed row = hub_items feed (feed_hubs mapping feed) row.refs ++ link_items feed (link_by (slice_get mapping.feeds feed)) row.refs

-- those of a feed, row by row
abbrev pub items_of : Mapping → Staged → List Item
items_of mapping staged = flat_map (row_items mapping staged.feed) staged.rows

-- those of a window, feed by feed in declared order, in which its extracts stand
abbrev pub window_items : Mapping → Window → List Item
window_items mapping window = flat_map (items_of mapping) window.extracts

-- ---- which are the same

-- whether an item is a reference list for a hub or a link
abbrev pub is_of : Parent → List Key → Item → Bool
is_of parent refs item = parent_eq item.parent parent && refs_eq item.refs refs

-- the number of the first item that is the same
abbrev pub first_same : List Item → Item → ℕ
first_same items item = position_or_len (is_of item.parent item.refs) items

-- ---- where a table looks for them first

-- one number more is mixed into a home
abbrev pub mixed : ℕ → ℕ → ℕ → ℕ
mixed factor home number = (home * factor + number + 1) % 4294967087

abbrev pub part_home : ℕ → ℕ → List ℕ → ℕ
part_home factor home part = mixed factor (fold (mixed factor) home part) 0

abbrev pub key_home : ℕ → ℕ → Key → ℕ
key_home factor home key = fold (part_home factor) home key.parts

abbrev pub parent_home : ℕ → Parent → ℕ
parent_home factor (Hub hub) = mixed factor 0 hub
parent_home factor (Link link) = mixed factor 1 link

-- the third power, modulo the prime
abbrev pub cube : ℕ → ℕ
cube home = home * home % 4294967087 * home % 4294967087

-- an item's table and the bytes of its references, mixed by a factor
abbrev pub list_home : ℕ → Item → ℕ
list_home factor item = cube (fold (key_home factor) (parent_home factor item.parent) item.refs)

-- the home of an item: mixed by both factors
abbrev pub item_home : Mixing → Item → ℕ
item_home mixing item = list_home mixing.first item * 4294967087 + list_home mixing.second item

-- the items as a key table sees them
abbrev pub keys_of : Mixing → List Item → Keys
keys_of mixing items = record { classes = map (first_same items) items; homes = map (item_home mixing) items }

-- ---- what becomes of them

-- the item with a number has a key that is not missing
abbrev pub IsFullAt : List Item → ℕ → Type 0
IsFullAt items n = (item : Item) × (slice_get items n ≡ Some item) × (list_all is_missing item.refs ≡ false)

-- The numbers that were offered are those of the items whose keys are not all missing.
pub record AreOffered (items : List Item) (offers : List ℕ) : Type 0 where
  pub only : (n : ℕ) → 1 ≤ times n offers → IsFullAt items n
  pub each : (n : ℕ) → IsFullAt items n → 1 ≤ times n offers

-- the offers with a number behind them, where the item with it has a key that is not missing
abbrev pub offers_with : ℕ → Option Item → List ℕ → List ℕ
offers_with n None offers = offers
offers_with n (Some item) offers = if list_all is_missing item.refs then offers else offers ++ n ∷ []

-- Beside what was offered before, there are the numbers from `from` up to `to` of the items whose keys are not all missing, and no others.
pub record OffersMore (items : List Item) (from to : ℕ) (before after : List ℕ) : Type 0 where
  pub kept : (n : ℕ) → 1 ≤ times n before → 1 ≤ times n after
  pub only : (n : ℕ) → 1 ≤ times n after → (1 ≤ times n before) ⊎ ((from ≤ n) × (n < to) × IsFullAt items n)
  pub each : (n : ℕ) → from ≤ n → n < to → IsFullAt items n → 1 ≤ times n after

-- the offer of an item for a hub or a link; none of another one's
abbrev pub offer_for : Parent → Option WindowItem → Option Offer
offer_for parent None = None
offer_for parent (Some item) = if parent_eq item.parent parent then Some item.offer else None

-- the offers for a hub or a link of the items with some numbers
abbrev pub chosen : Parent → List WindowItem → List ℕ → List Offer
chosen parent items numbers = filter_map (λ n. offer_for parent (slice_get items n)) numbers

-- The numbers are of the items that a table keeps, when all are offered whose keys are not all missing.
pub record AreLeast (items : List Item) (numbers : List ℕ) : Type 0 where
  pub mixing : Mixing
  pub offers : List ℕ
  pub offered : AreOffered items offers
  pub least : AreLeastOffered (keys_of mixing items) offers numbers

-- the hash keys that items tell are those of their reference lists
abbrev pub AreTold : Hashes → List WindowItem → Type 0
AreTold hashes items = All (λ item. IsKeyOf hashes (told_by item.offer.told) item.offer.refs.now) items

-- The items are those of a window, and the numbers are of those that a table of them keeps.
pub record AreKept (mapping : Mapping) (hashes : Hashes) (window : Window) (items : List WindowItem) (numbers : List ℕ) : Type 0 where
  pub items_are : map item_of items ≡ window_items mapping window
  pub told : AreTold hashes items
  pub least : AreLeast (map item_of items) numbers

abbrev pub IsKept : Mapping → Hashes → Window → KeptKeys → Type 0
IsKept mapping hashes window kept = AreKept mapping hashes window kept.items.items kept.numbers.items

-- ---- which task offers which items

-- the item with a number is one of those that a task offers
abbrev pub IsOfTask : List ItemRange → ℕ → ℕ → Type 0
IsOfTask ranges task n = (range : ItemRange) × (slice_get ranges task ≡ Some range) × (range.from ≤ n) × (n < range.to)

-- each range is of items
abbrev pub AreRanges : ℕ → List ItemRange → Type 0
AreRanges count ranges = All (λ range. (range.from ≤ range.to) × (range.to ≤ count)) ranges

-- each item with a lesser number is one of those that some task offers
abbrev pub AreUpTo : List ItemRange → ℕ → Type 0
AreUpTo ranges end = (n : ℕ) → n < end → (task : ℕ) × IsOfTask ranges task n

-- Offers of the items of some tasks, without those whose keys are all missing: each of them is there, and all that are there are such.
pub record HaveOffered (items : List Item) (ranges : List ItemRange) (done offers : List ℕ) : Type 0 where
  pub only : (n : ℕ) → 1 ≤ times n offers → IsFullAt items n
  pub each : (task : ℕ) → 1 ≤ times task done → (n : ℕ) → IsOfTask ranges task n → IsFullAt items n → 1 ≤ times n offers

-- A seat after the items of a task were offered.
pub record OffersOf (items : List Item) (ranges : List ItemRange) (task : ℕ) (before after : Offerer) : Type 0 where
  pub seat : after ≡ record before { offers = after.offers }
  pub offers : (range : ItemRange) → slice_get ranges task ≡ Some range → OffersMore items range.from range.to before.offers after.offers

-- Offers of the items of all tasks, without those whose keys are all missing.
pub record HaveAllOffered (items : List Item) (ranges : List ItemRange) (offers : List ℕ) : Type 0 where
  pub only : (n : ℕ) → 1 ≤ times n offers → IsFullAt items n
  pub each : (task : ℕ) (n : ℕ) → IsOfTask ranges task n → IsFullAt items n → 1 ≤ times n offers
