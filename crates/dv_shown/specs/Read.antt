-- Extracts as they read, and the room that they take.
use Rattle.std.specs.Prelude.{◌≡◌, [], ◌∷◌, Some, codes}
use Rattle.dv_catalog.specs.declared.rules.Rule.TheVariants.{ColumnTwice, NoHeader, EmptyKey, TooManyRows, TwoDrivers}
use Rattle.dv_catalog.specs.Readings.Read.{Broken, Taken}
use Rattle.dv_shown.specs.ReadingExamples.{named_customers, phones, read_for, row, two_feeds}
use Rattle.dv_catalog.specs.Records.{record_rule}
use Rattle.dv_catalog.specs.Windows.{reads_after, window_of}
use Rattle.dv_shown.specs.Mappings.{with_teams}
use Rattle.dv_catalog.specs.Readings.{reads}

-- what reads as rows, and what it takes of the room
pub record ExtractsRead : Type 0 where
  pub column_twice_apart : read_for named_customers (codes "CUST_NO,NAME,CUST_NO\n") ≡ Broken (ColumnTwice (codes "customers") (codes "CUST_NO"))
  pub key_before_rival :
      record_rule named_customers (codes "CUST_NO" ∷ codes "NAME" ∷ []) 9 2 (row ([] ∷ []) [] (codes "m" ∷ []) ∷ []) ([] ∷ codes "n" ∷ [])
      ≡ Some (EmptyKey (codes "customers") 2)
  pub blanks_round_attributes : read_for named_customers (codes "CUST_NO,NAME\n1, n b\t\n") ≡ Taken (row (codes "1" ∷ []) [] (codes "n b" ∷ []) ∷ []) 1
  pub blanks_round_sub : read_for phones (codes "CUST_NO,KIND,PHONE\n1, fax ,12\n") ≡ Taken (row (codes "1" ∷ []) (codes "fax" ∷ []) (codes "12" ∷ []) ∷ []) 1
  pub two_drivers_there :
      reads with_teams 0 (codes "EMP,DEPT,PROJ\n1,P,X\n") 9 ≡ Taken (row (codes "1" ∷ codes "P" ∷ codes "X" ∷ []) [] [] ∷ []) 1
  pub one_of_two_drivers_missing : reads with_teams 0 (codes "EMP,DEPT,PROJ\n1,,X\n") 9 ≡ Broken (EmptyKey (codes "teams") 1)
  pub one_of_two_drivers_shared :
      reads with_teams 0 (codes "EMP,DEPT,PROJ\n1,P,X\n1,Q,Y\n") 9
      ≡ Taken (row (codes "1" ∷ codes "P" ∷ codes "X" ∷ []) [] [] ∷ row (codes "1" ∷ codes "Q" ∷ codes "Y" ∷ []) [] [] ∷ []) 2
  pub both_drivers_shared :
      reads with_teams 0 (codes "EMP,DEPT,PROJ\n1,P,X\n1,P,Y\n") 9
      ≡ Broken (TwoDrivers (codes "teams") (record { parts = codes "1" ∷ [] } ∷ record { parts = codes "P" ∷ [] } ∷ []))
  pub equal_records_take_room :
      reads_after two_feeds 399_998 (record { feed = 0; bytes = codes "CUST_NO,NAME\na,b\na,b\n" } ∷ record { feed = 1; bytes = codes "ACCOUNT,TIER\na,b\n" } ∷ [])
      ≡ record { feed = 0; read = Taken (row (codes "A" ∷ []) [] (codes "b" ∷ []) ∷ []) 2 } ∷ record { feed = 1; read = Broken (TooManyRows (codes "accounts") 1) } ∷ []
  pub broken_takes_none :
      reads_after two_feeds 399_999 (record { feed = 0; bytes = [] } ∷ record { feed = 1; bytes = codes "ACCOUNT,TIER\na,b\n" } ∷ [])
      ≡ record { feed = 0; read = Broken (NoHeader (codes "customers")) } ∷ record { feed = 1; read = Taken (row (codes "A" ∷ []) [] (codes "b" ∷ []) ∷ []) 1 } ∷ []
  pub header_alone_is_there :
      window_of two_feeds (record { load = 5; extracts = record { feed = codes "accounts"; bytes = codes "ACCOUNT,TIER\n" } ∷ [] })
      ≡ record { load = 5; extracts = record { feed = 1; rows = [] } ∷ [] }
  pub broken_left_out :
      window_of two_feeds (record { load = 5; extracts = record { feed = codes "accounts"; bytes = [] } ∷ record { feed = codes "customers"; bytes = codes "CUST_NO,NAME\n" } ∷ [] })
      ≡ record { load = 5; extracts = record { feed = 0; rows = [] } ∷ [] }
