-- Worked extracts, and what they read as.
use Rattle.std.specs.Prelude.{◌≡◌, ℕ, List, [], ◌∷◌, ◌++◌, Some, None, codes, map, replicate}
use Rattle.dv_text.specs.declared.rows.NRow.{NRow}
use Rattle.dv_catalog.specs.declared.entries.FeedDef.{FeedDef}
use Rattle.dv_catalog.specs.declared.entries.Parent.TheVariants.{Hub, Link}
use Rattle.dv_catalog.specs.declared.rules.Rule.TheVariants.{NoHeader, HeaderNotUtf8, ColumnTwice, UnmappedColumn, MissingColumn, Ragged, NotUtf8, FieldLong, EmptyKey, TwoRows, TooManyRows, TwoDrivers}
use Rattle.dv_catalog.specs.Entries.{Mapping}
use Rattle.dv_catalog.specs.Readings.{Read, reads, records_read}
use Rattle.dv_catalog.specs.Readings.Read.{Broken, Taken}
use Rattle.dv_catalog.specs.Windows.{reads_after, room_after, window_of, window_reads, window_rule}

-- a feed of one key column, and one with an attribute
abbrev pub customers : FeedDef
customers = record {
  name = codes "customers";
  source = codes "crm";
  parent = Hub 0;
  keys = (codes "CUST_NO" ∷ []) ∷ [];
  sub = [];
  attrs = [];
  ignore = [];
  driver = [];
}

abbrev pub named_customers : FeedDef
named_customers = record customers { attrs = codes "NAME" ∷ [] }

-- the same, with a column that is ignored
abbrev pub noted_customers : FeedDef
noted_customers = record named_customers { ignore = codes "NOTES" ∷ [] }

-- a second feed of the hub
abbrev pub accounts : FeedDef
accounts = record {
  name = codes "accounts";
  source = codes "shop";
  parent = Hub 0;
  keys = (codes "ACCOUNT" ∷ []) ∷ [];
  sub = [];
  attrs = codes "TIER" ∷ [];
  ignore = [];
  driver = [];
}

-- a key of two parts
abbrev pub sites : FeedDef
sites = record {
  name = codes "sites";
  source = codes "geo";
  parent = Hub 0;
  keys = (codes "REGION" ∷ codes "SITE" ∷ []) ∷ [];
  sub = [];
  attrs = [];
  ignore = [];
  driver = [];
}

-- several rows to one key
abbrev pub phones : FeedDef
phones = record {
  name = codes "phones";
  source = codes "crm";
  parent = Hub 0;
  keys = (codes "CUST_NO" ∷ []) ∷ [];
  sub = codes "KIND" ∷ [];
  attrs = codes "PHONE" ∷ [];
  ignore = [];
  driver = [];
}

-- reference lists of a link, and the same with a driver
abbrev pub placements : FeedDef
placements = record {
  name = codes "placements";
  source = codes "hr";
  parent = Link 0;
  keys = (codes "EMP" ∷ []) ∷ (codes "DEPT" ∷ []) ∷ [];
  sub = [];
  attrs = [];
  ignore = [];
  driver = [];
}

abbrev pub assignments : FeedDef
assignments = record placements { name = codes "assignments"; driver = 0 ∷ [] }

-- a mapping of some feeds
abbrev pub of_feeds : List FeedDef → Mapping
of_feeds feeds = record {
  hubs = record { name = codes "first"; parts = 1 } ∷ record { name = codes "second"; parts = 1 } ∷ [];
  links = record { name = codes "both"; hubs = 0 ∷ 1 ∷ [] } ∷ [];
  feeds = feeds;
  paths = [];
}

-- what bytes read as for a feed, with the most room
abbrev pub read_for : FeedDef → List ℕ → Read
read_for feed bytes = reads (of_feeds (feed ∷ [])) 0 bytes 200_000

-- the row of one reference for each key, each of one part
abbrev pub row : List (List ℕ) → List (List ℕ) → List (List ℕ) → NRow
row keys sub attrs = record { refs = map (λ part. record { parts = part ∷ [] }) keys; sub = sub; attrs = attrs }

-- a row of a key alone
abbrev pub bare : List ℕ → NRow
bare key = row (key ∷ []) [] []

-- the byte order mark
abbrev pub mark : List ℕ
mark = 0xEF ∷ 0xBB ∷ 0xBF ∷ []

-- what the reader of CSV makes of bytes
pub record BytesHold : Type 0 where
  pub normal_forms : read_for customers (codes "CUST_NO\na1\n A2 \n") ≡ Taken (bare (codes "A1") ∷ bare (codes "A2") ∷ []) 2
  pub no_last_line_end : read_for customers (codes "CUST_NO\nb") ≡ Taken (bare (codes "B") ∷ []) 1
  pub both_line_ends : read_for customers (codes "CUST_NO\r\nb\r\na\r\n") ≡ Taken (bare (codes "A") ∷ bare (codes "B") ∷ []) 2
  pub quoted : read_for named_customers (codes "\"CUST_NO\",NAME\n1,\"a,\"\"b\"\"\nc\"\n") ≡ Taken (row (codes "1" ∷ []) [] (codes "a,\"b\"\nc" ∷ []) ∷ []) 1
  pub blank_lines : read_for customers (codes "\n\nCUST_NO\n\na\n\n\nb\n\n") ≡ Taken (bare (codes "A") ∷ bare (codes "B") ∷ []) 2
  pub one_mark : read_for customers (mark ++ codes "CUST_NO\na\n") ≡ Taken (bare (codes "A") ∷ []) 1
  pub two_marks : read_for customers (mark ++ mark ++ codes "CUST_NO\na\n") ≡ Broken (UnmappedColumn (codes "customers") (mark ++ codes "CUST_NO"))
  pub no_bytes : read_for customers [] ≡ Broken (NoHeader (codes "customers"))
  pub blank_alone : read_for customers (codes "\r\n\r\n\n") ≡ Broken (NoHeader (codes "customers"))
  pub mark_alone : read_for customers mark ≡ Broken (NoHeader (codes "customers"))
  pub header_alone : read_for named_customers (codes "CUST_NO,NAME\n") ≡ Taken [] 0
  pub no_feed : reads (of_feeds []) 0 (codes "CUST_NO\na\n") 200_000 ≡ Taken [] 0

-- W8 to W11
pub record HeadersHold : Type 0 where
  pub not_text : read_for customers (codes "CUST_NO,X,X," ++ 0xFF ∷ codes "\na\n") ≡ Broken (HeaderNotUtf8 (codes "customers"))
  pub twice : read_for customers (codes "CUST_NO,Y,X, X ,CUST_NO\na\n") ≡ Broken (ColumnTwice (codes "customers") (codes "X"))
  pub twice_before_unmapped : read_for customers (codes "A,CUST_NO,CUST_NO\n") ≡ Broken (ColumnTwice (codes "customers") (codes "CUST_NO"))
  pub unmapped : read_for named_customers (codes "CUST_NO,NAME,NOTES\n1,abc,hi\n") ≡ Broken (UnmappedColumn (codes "customers") (codes "NOTES"))
  pub ignored : read_for noted_customers (codes "CUST_NO,NAME,NOTES\n1,abc,hi\n") ≡ Taken (row (codes "1" ∷ []) [] (codes "abc" ∷ []) ∷ []) 1
  pub ignored_lacking : read_for noted_customers (codes "CUST_NO,NAME\n1,abc\n") ≡ Taken (row (codes "1" ∷ []) [] (codes "abc" ∷ []) ∷ []) 1
  pub first_unmapped : read_for customers (codes "B,CUST_NO,A\n") ≡ Broken (UnmappedColumn (codes "customers") (codes "B"))
  pub no_name : read_for customers (codes "CUST_NO,\n1,2\n") ≡ Broken (UnmappedColumn (codes "customers") [])
  pub unmapped_before_missing : read_for named_customers (codes "NAME,NOTES\n") ≡ Broken (UnmappedColumn (codes "customers") (codes "NOTES"))
  pub key_missing : read_for phones (codes "PHONE\n1\n") ≡ Broken (MissingColumn (codes "phones") (codes "CUST_NO"))
  pub sub_missing : read_for phones (codes "CUST_NO\n1\n") ≡ Broken (MissingColumn (codes "phones") (codes "KIND"))
  pub attribute_missing : read_for named_customers (codes "CUST_NO\n1\n") ≡ Broken (MissingColumn (codes "customers") (codes "NAME"))
  pub other_case : read_for customers (codes "cust_no\n1\n") ≡ Broken (UnmappedColumn (codes "customers") (codes "cust_no"))
  pub blanks_round_names : read_for sites (codes " SITE ,\tREGION\nc, a;b\n") ≡ Taken (record { refs = record { parts = codes "A;B" ∷ codes "C" ∷ [] } ∷ []; sub = []; attrs = [] } ∷ []) 1

-- a record of a key and an ignored field
abbrev pub with_note : List ℕ → List ℕ → Read
with_note key note = records_read noted_customers 200_000 (
    (codes "NAME" ∷ codes "NOTES" ∷ codes "CUST_NO" ∷ [])
    ∷ (codes "n" ∷ note ∷ key ∷ [])
    ∷ [])

-- W12 to W17
pub record RecordsHold : Type 0 where
  pub longer : read_for customers (codes "CUST_NO\n1\n1,2\n") ≡ Broken (Ragged (codes "customers") 2)
  pub shorter : read_for named_customers (codes "CUST_NO,NAME\n1\n") ≡ Broken (Ragged (codes "customers") 1)
  pub not_text : read_for named_customers (codes "CUST_NO,NAME\n1,a\n2," ++ 0xC3 ∷ codes "\n") ≡ Broken (NotUtf8 (codes "customers") 2)
  pub long_field : with_note (codes "k") (replicate 4_097 32) ≡ Broken (FieldLong (codes "customers") 1)
  pub longest_field : with_note (codes "k") (replicate 4_096 32) ≡ Taken (row (codes "K" ∷ []) [] (codes "n" ∷ []) ∷ []) 1
  pub text_before_length : with_note (codes "k") (replicate 4_097 0xFF) ≡ Broken (NotUtf8 (codes "customers") 1)
  pub length_before_key : with_note [] (replicate 4_097 32) ≡ Broken (FieldLong (codes "customers") 1)
  pub empty_key : read_for sites (codes "REGION,SITE\n,\n") ≡ Broken (EmptyKey (codes "sites") 1)
  pub blank_key : read_for customers (codes "CUST_NO\na\n\"\t \"\n") ≡ Broken (EmptyKey (codes "customers") 2)
  pub empty_part : read_for sites (codes "REGION,SITE\n,c\n") ≡ Taken (record { refs = record { parts = [] ∷ codes "C" ∷ [] } ∷ []; sub = []; attrs = [] } ∷ []) 1
  pub empty_reference : read_for placements (codes "EMP,DEPT\n,P\n1,\n") ≡ Taken (row ([] ∷ codes "P" ∷ []) [] [] ∷ row (codes "1" ∷ [] ∷ []) [] [] ∷ []) 2
  pub empty_references : read_for placements (codes "EMP,DEPT\n1,P\n,\n") ≡ Broken (EmptyKey (codes "placements") 2)
  pub empty_driver : read_for assignments (codes "EMP,DEPT\n1,\n,P\n") ≡ Broken (EmptyKey (codes "assignments") 2)
  pub equal_rows : read_for named_customers (codes "CUST_NO,NAME\n k1 ,n\nK1,n\n") ≡ Taken (row (codes "K1" ∷ []) [] (codes "n" ∷ []) ∷ []) 2
  pub two_rows : read_for named_customers (codes "CUST_NO,NAME\n k1 ,n\nK1,m\n") ≡ Broken (TwoRows (codes "customers") 1 2)
  pub first_rival : read_for named_customers (codes "CUST_NO,NAME\na,n\nb,n\nb,n\nb,N\na,n\n") ≡ Broken (TwoRows (codes "customers") 2 4)
  pub several_subs : read_for phones (codes "CUST_NO,KIND,PHONE\n1,work,11\n1,fax,12\n1,Fax,12\n") ≡
      Taken (row (codes "1" ∷ []) (codes "Fax" ∷ []) (codes "12" ∷ []) ∷ row (codes "1" ∷ []) (codes "fax" ∷ []) (codes "12" ∷ []) ∷ row (codes "1" ∷ []) (codes "work" ∷ []) (codes "11" ∷ []) ∷ []) 3
  pub one_sub_twice : read_for phones (codes "CUST_NO,KIND,PHONE\n1,fax,11\n2,fax,12\n1,fax,12\n") ≡ Broken (TwoRows (codes "phones") 1 3)
  pub no_room : reads (of_feeds (customers ∷ [])) 0 (codes "CUST_NO\na\na\nb\n") 1 ≡ Broken (TooManyRows (codes "customers") 2)
  pub just_room : reads (of_feeds (customers ∷ [])) 0 (codes "CUST_NO\na\na\n") 2 ≡ Taken (bare (codes "A") ∷ []) 2
  pub lesser_rule : reads (of_feeds (named_customers ∷ [])) 0 (codes "CUST_NO,NAME\n" ++ 0xFF ∷ codes "\n") 0 ≡ Broken (Ragged (codes "customers") 1)
  pub rows_before_room : reads (of_feeds (named_customers ∷ [])) 0 (codes "CUST_NO,NAME\na,m\na,n\n") 1 ≡ Broken (TwoRows (codes "customers") 1 2)
  pub lesser_record : read_for named_customers (codes "CUST_NO,NAME\na,m\n,n\na\n") ≡ Broken (EmptyKey (codes "customers") 2)
  pub past_ascii : read_for named_customers (codes "NAME,CUST_NO\nab," ++ 0xC3 ∷ 0xA9 ∷ codes "c\n") ≡ Taken (row ((0xC3 ∷ 0xA9 ∷ codes "C") ∷ []) [] (codes "ab" ∷ []) ∷ []) 1

-- W18
pub record DriversHold : Type 0 where
  pub two_partners : read_for assignments (codes "EMP,DEPT\n1,P\n1,Q\n") ≡ Broken (TwoDrivers (codes "assignments") (record { parts = codes "1" ∷ [] } ∷ []))
  pub least : read_for assignments (codes "EMP,DEPT\n2,P\n3,P\n2,Q\n1,Q\n1,R\n") ≡ Broken (TwoDrivers (codes "assignments") (record { parts = codes "1" ∷ [] } ∷ []))
  pub one_partner : read_for assignments (codes "EMP,DEPT\n1,P\n2,P\n1,P\n") ≡ Taken (row (codes "1" ∷ codes "P" ∷ []) [] [] ∷ row (codes "2" ∷ codes "P" ∷ []) [] [] ∷ []) 3
  pub records_first : read_for assignments (codes "EMP,DEPT\n1,P\n1,Q\n,P\n") ≡ Broken (EmptyKey (codes "assignments") 3)
  pub no_driver : read_for placements (codes "EMP,DEPT\n1,P\n1,Q\n") ≡ Taken (row (codes "1" ∷ codes "P" ∷ []) [] [] ∷ row (codes "1" ∷ codes "Q" ∷ []) [] [] ∷ []) 2

-- a mapping of two feeds
abbrev pub two_feeds : Mapping
two_feeds = of_feeds (named_customers ∷ accounts ∷ [])

-- windows
pub record WindowsHold : Type 0 where
  pub declared_order :
      window_of two_feeds (record {
        load = 5;
        extracts = record { feed = codes "accounts"; bytes = codes "ACCOUNT,TIER\n2,gold\n" } ∷ record { feed = codes "customers"; bytes = codes "CUST_NO,NAME\n1,abc\n" } ∷ [];
      })
      ≡ record {
        load = 5;
        extracts = record { feed = 0; rows = row (codes "1" ∷ []) [] (codes "abc" ∷ []) ∷ [] } ∷ record { feed = 1; rows = row (codes "2" ∷ []) [] (codes "gold" ∷ []) ∷ [] } ∷ [];
      }
  pub one_feed :
      window_reads two_feeds (record { load = 5; extracts = record { feed = codes "accounts"; bytes = codes "ACCOUNT,TIER\n" } ∷ [] })
      ≡ record { feed = 1; read = Taken [] 0 } ∷ []
  pub first_broken :
      window_rule two_feeds (record {
        load = 5;
        extracts = record { feed = codes "accounts"; bytes = [] } ∷ record { feed = codes "customers"; bytes = codes "CUST_NO,NAME\n1\n" } ∷ [];
      })
      ≡ Some (Ragged (codes "customers") 1)
  pub none_broken :
      window_rule two_feeds (record { load = 5; extracts = record { feed = codes "customers"; bytes = codes "CUST_NO,NAME\n" } ∷ [] }) ≡ None
  pub most_room : room_after 0 ≡ 200_000
  pub some_room : room_after 399_999 ≡ 1
  pub no_room : room_after 400_000 ≡ 0
  pub room_shared :
      reads_after two_feeds 399_999 (record { feed = 0; bytes = codes "CUST_NO,NAME\na,b\n" } ∷ record { feed = 1; bytes = codes "ACCOUNT,TIER\na,b\n" } ∷ [])
      ≡ record { feed = 0; read = Taken (row (codes "A" ∷ []) [] (codes "b" ∷ []) ∷ []) 1 } ∷ record { feed = 1; read = Broken (TooManyRows (codes "accounts") 1) } ∷ []

-- all of these
pub record ReadingsHold : Type 0 where
  pub bytes : BytesHold
  pub headers : HeadersHold
  pub records : RecordsHold
  pub drivers : DriversHold
  pub windows : WindowsHold
