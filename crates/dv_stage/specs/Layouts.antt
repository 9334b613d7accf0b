-- Where the columns of a feed stand in a header, and the row of a record by these places.
use Rattle.std.specs.Prelude.{◌≡◌, ℕ, List, map, filter_map, slice_get}
use Rattle.dv_text.specs.Normal.{norm_field, norm_key}
use Rattle.dv_text.specs.declared.rows.Key.{Key}
use Rattle.dv_text.specs.declared.rows.NRow.{NRow}
use Rattle.dv_catalog.specs.declared.entries.FeedDef.{FeedDef}
use Rattle.dv_catalog.specs.Records.{place_of}
use Rattle.dv_stage.specs.declared.layouts.Header.{Header}
use Rattle.dv_stage.specs.declared.layouts.Layout.{Layout}

-- the places of columns
abbrev pub places_of : List (List ℕ) → List (List ℕ) → List ℕ
places_of names columns = filter_map (place_of names) columns

-- the fields of a record at places
abbrev pub fields_at : List (List ℕ) → List ℕ → List (List ℕ)
fields_at fields places = filter_map (slice_get fields) places

abbrev pub key_at : List (List ℕ) → List ℕ → Key
key_at fields places = record { parts = map norm_key (fields_at fields places) }

-- the row of a record
abbrev pub row_at : Layout → List (List ℕ) → NRow
row_at layout fields = record {
  refs = map (key_at fields) layout.keys;
  sub = map norm_field (fields_at fields layout.sub);
  attrs = map norm_field (fields_at fields layout.attrs);
}

-- the layout has the places of the feed's columns among these names
pub record IsLayoutOf (feed : FeedDef) (names : List (List ℕ)) (layout : Layout) : Type 0 where
  pub of_keys : layout.keys ≡ map (places_of names) feed.keys
  pub of_sub : layout.sub ≡ places_of names feed.sub
  pub of_attrs : layout.attrs ≡ places_of names feed.attrs

-- the layout is that of the feed's columns among the names
abbrev pub IsHeader : Header → Type 0
IsHeader header = IsLayoutOf header.feed.now header.names header.layout
