-- Normal forms, lists, keys, the numbers that texts begin with, and dates as texts.
use Rattle.std.specs.Prelude.{◌≡◌, ◌-◌, ◌*◌, ◌^◌, [], ◌∷◌, ◌++◌, Some, None, true, false, codes, length, map, replicate, slice_get, take}
use Rattle.std.specs.List.{list_all, remove}
use Rattle.std.specs.Ordering.{nat_cmp}
use Rattle.std.specs.declared.cmp.Ordering.TheVariants.{Less, Greater}
use Rattle.dv_text.specs.Digests.{digest_prefix}
use Rattle.dv_text.specs.Keys.{is_missing, row_eq}
use Rattle.dv_text.specs.Normal.{norm_field, norm_key}
use Rattle.dv_text.specs.Orders.{row_cmp, text_cmp}
use Rattle.dv_text.specs.Prefixes.{text_prefix}
use Rattle.dv_text.specs.Sorting.{sorted_by}
use Rattle.dv_text.specs.Stamps.{is_stamp_number, open_end, stamp_of, stamp_text}
use Rattle.dv_catalog.specs.Feeds.{keys_at}
use Rattle.dv_records.specs.HubNames.{key_named}
use Rattle.dv_shown.specs.Words.{day, key, leap_day, named_row, plain, row, year_2030}

pub record NormalsHold : Type 0 where
  pub raised : norm_key (codes "a1") ≡ codes "A1"
  pub trimmed : norm_key (codes " A2 ") ≡ codes "A2"
  pub kept : norm_field (codes " a b ") ≡ codes "a b"
  pub each_blank : norm_field (codes "\t\r\n x \n\r\t") ≡ codes "x"
  pub blanks_alone : norm_field (codes " \t\r\n") ≡ []
  pub not_raised : norm_field (codes "a1") ≡ codes "a1"
  pub past_ascii : norm_key (codes "{z`" ++ 0xC3 ∷ 0xA9 ∷ []) ≡ codes "{Z`" ++ 0xC3 ∷ 0xA9 ∷ []
  -- two records that have one normal form are one row
  pub one_row : sorted_by row_cmp (
      named_row (norm_key (codes " k1 ")) (norm_field (codes "n")) ∷ named_row (norm_key (codes "K1")) (norm_field (codes "n")) ∷ []) ≡
      named_row (codes "K1") (codes "n") ∷ []
  -- of texts that tie by length, the first
  pub first_of_ties : sorted_by (λ a b. nat_cmp (length a) (length b)) (codes "bb" ∷ codes "aa" ∷ codes "c" ∷ []) ≡ codes "c" ∷ codes "bb" ∷ []

-- lists of three items that grow and shrink
pub record ListsHold : Type 0 where
  pub pushed : codes "ab" ++ codes "c" ≡ codes "abc"
  pub appended : codes "a" ++ codes "bc" ≡ codes "abc"
  pub popped : take (length (codes "abc") - 1) (codes "abc") ≡ codes "ab"
  pub taken : slice_get (codes "abc") 1 ≡ Some 98
  pub removed : remove (codes "abc") 1 ≡ codes "ac"

-- the numbers that digests and texts begin with
pub record NumbersHold : Type 0 where
  pub of_digest : digest_prefix (replicate 6 0 ++ 1 ∷ 2 ∷ replicate 8 9) ≡ 258
  -- behind a short text there are zeros
  pub of_text : text_prefix (codes "A") ≡ 65 * 256 ^ 15

-- keys, rows and their order
pub record KeysHold : Type 0 where
  pub equal_rows :
      map
      (row_eq (row (codes "1" ∷ []) (codes "a" ∷ []) (codes "x" ∷ [])))
      (row (codes "1" ∷ []) (codes "a" ∷ []) (codes "x" ∷ []) ∷ row (codes "2" ∷ []) (codes "a" ∷ []) (codes "x" ∷ []) ∷ row (codes "1" ∷ []) (codes "b" ∷ []) (codes "x" ∷ [])
      ∷ row (codes "1" ∷ []) (codes "a" ∷ []) (codes "y" ∷ []) ∷ row (codes "1" ∷ codes "2" ∷ []) (codes "a" ∷ []) (codes "x" ∷ []) ∷ [])
      ≡ true ∷ false ∷ false ∷ false ∷ false ∷ []
  pub missing : map is_missing (key [] ∷ record { parts = [] ∷ [] ∷ [] } ∷ record { parts = [] ∷ codes "A" ∷ [] } ∷ key (codes "A") ∷ []) ≡ true ∷ true ∷ false ∷ false ∷ []
  pub all_missing : map (list_all is_missing) ((key [] ∷ key [] ∷ []) ∷ (key [] ∷ key (codes "P") ∷ []) ∷ []) ≡ true ∷ false ∷ []
  pub zero_key : plain.hash (key [] ∷ key [] ∷ []) ≡ 0 ∷ []
  pub one_missing : plain.hash (key [] ∷ key (codes "P") ∷ []) ≡ codes ";P"
  pub parts_joined : plain.hash (record { parts = codes "A" ∷ codes "B" ∷ [] } ∷ key (codes "P") ∷ []) ≡ codes "A;B;P"
  pub attributes_joined : plain.diff (codes "a" ∷ codes "b" ∷ []) ≡ codes "a;b"
  pub texts_once : sorted_by text_cmp (codes "b" ∷ codes "ab" ∷ codes "b" ∷ codes "a" ∷ []) ≡ codes "a" ∷ codes "ab" ∷ codes "b" ∷ []
  pub by_references_first :
      row_cmp (row (codes "1" ∷ []) (codes "b" ∷ []) (codes "y" ∷ [])) (row (codes "2" ∷ []) (codes "a" ∷ []) (codes "x" ∷ [])) ≡ Less
  pub by_sub_next : row_cmp (row (codes "1" ∷ []) (codes "b" ∷ []) (codes "x" ∷ [])) (row (codes "1" ∷ []) (codes "a" ∷ []) (codes "y" ∷ [])) ≡ Greater
  pub by_attributes_last : row_cmp (row (codes "1" ∷ []) (codes "a" ∷ []) (codes "x" ∷ [])) (row (codes "1" ∷ []) (codes "a" ∷ []) (codes "y" ∷ [])) ≡ Less
  pub prefix_first : row_cmp (row (codes "1" ∷ []) [] []) (row (codes "10" ∷ []) [] []) ≡ Less
  pub keys_of_hub : keys_at 0 (0 ∷ 1 ∷ 0 ∷ []) (key (codes "a") ∷ key (codes "b") ∷ key (codes "c") ∷ []) ≡ key (codes "a") ∷ key (codes "c") ∷ []
  -- one digest in two hubs, and in none
  pub named :
      map
      (λ hub. key_named hub (codes "1") (record { hub = 0; digest = codes "1"; key = key (codes "A") } ∷ record { hub = 1; digest = codes "1"; key = key (codes "P") } ∷ []))
      (0 ∷ 1 ∷ 2 ∷ [])
      ≡ Some (key (codes "A")) ∷ Some (key (codes "P")) ∷ None ∷ []

-- the dates of the examples
pub record DatesHold : Type 0 where
  pub first : stamp_of (codes "2024-03-01T02:00:00") ≡ Some (day 1)
  pub second : stamp_of (codes "2024-03-02T02:00:00") ≡ Some (day 2)
  pub before : stamp_of (codes "2024-02-29T00:00:00") ≡ Some leap_day
  pub after : stamp_of (codes "2030-01-01T00:00:00") ≡ Some year_2030
  pub no_day : stamp_of (codes "2024-02-30T00:00:00") ≡ None
  pub beginning : stamp_of (codes "1900-01-01T00:00:00") ≡ Some 0
  pub second_day : stamp_of (codes "1900-01-02T01:01:01") ≡ Some 90061
  pub last_second : stamp_of (codes "9998-12-31T23:59:59") ≡ Some 255579753599
  pub end_of_century : stamp_of (codes "2000-12-31T23:59:59") ≡ Some 3187295999
  pub none_of :
      map
      stamp_of
      (codes "1899-12-31T23:59:59" ∷ codes "9999-01-01T00:00:00" ∷ codes "9999-12-31T23:59:59" ∷ codes "2024-00-01T00:00:00" ∷ codes "2024-13-01T00:00:00"
      ∷ codes "2024-03-00T00:00:00" ∷ codes "2024-04-31T00:00:00" ∷ codes "2023-02-29T00:00:00" ∷ codes "1900-02-29T00:00:00" ∷ codes "2024-03-01T24:00:00"
      ∷ codes "2024-03-01T00:60:00" ∷ codes "2024-03-01T00:00:60" ∷ [])
      ≡ replicate 12 None
  pub no_form :
      map
      stamp_of
      (codes "2024-03-01 02:00:00" ∷ codes "2024/03-01T02:00:00" ∷ codes "2024-03/01T02:00:00" ∷ codes "2024-03-01T02.00:00" ∷ codes "2024-03-01T02:00.00"
      ∷ codes "2024-03-01T02:00:00Z" ∷ codes "2024-03-01T02:00" ∷ codes "2a24-03-01T02:00:00" ∷ codes "202a-03-01T02:00:00" ∷ codes "2024-0a-01T02:00:00"
      ∷ codes "2024-03-0aT02:00:00" ∷ codes "2024-03-01T0a:00:00" ∷ codes "2024-03-01T02:0a:00" ∷ codes "2024-03-01T02:00:0a" ∷ codes "2024-03-01T02:00:-1" ∷ [])
      ≡ replicate 15 None
  pub shown :
      map stamp_text (0 ∷ 121 ∷ 90061 ∷ 2678400 ∷ 31536000 ∷ leap_day ∷ day 1 ∷ 3187295999 ∷ 255579753599 ∷ [])
      ≡ codes "1900-01-01T00:00:00" ∷ codes "1900-01-01T00:02:01" ∷ codes "1900-01-02T01:01:01" ∷ codes "1900-02-01T00:00:00" ∷ codes "1901-01-01T00:00:00"
      ∷ codes "2024-02-29T00:00:00" ∷ codes "2024-03-01T02:00:00" ∷ codes "2000-12-31T23:59:59" ∷ codes "9998-12-31T23:59:59" ∷ []
  pub numbers : map is_stamp_number (0 ∷ 255579753599 ∷ 255579753600 ∷ 255611289598 ∷ 255611289599 ∷ 255611289600 ∷ []) ≡ true ∷ true ∷ false ∷ false ∷ true ∷ false ∷ []
  pub end : stamp_text open_end ≡ codes "9999-12-31T23:59:59"
