-- The heads of the examples are heads.
use Rattle.dv_http_shown.proofs.Vocabulary.{All-from_recursion, AllPass-from_test, IsAscii-from_all, IsField, IsRequestHead, IsUtf8, IsUtf8-from_ascii, [], arith, codes, host, is_token_byte, is_uri_byte, is_value_byte, old, posted, refl, ◌<◌}

root_text : IsUtf8 (codes "/")
root_text = IsUtf8-from_ascii (codes "/") (IsAscii-from_all (codes "/") (All-from_recursion (λ b. b < 128) (codes "/") (omega arith, tt)))

windows_text : IsUtf8 (codes "/windows")
windows_text = IsUtf8-from_ascii (codes "/windows") (IsAscii-from_all (codes "/windows") (All-from_recursion (λ b. b < 128) (codes "/windows")
    (omega arith, (omega arith, (omega arith, (omega arith, (omega arith, (omega arith, (omega arith, (omega arith, tt))))))))))

pub head_old : IsRequestHead old
unfolding is_token_byte
head_old = record {
  method = (omega arith, AllPass-from_test is_token_byte (codes "GET") refl);
  target = (omega arith, AllPass-from_test is_uri_byte (codes "/") refl);
  target_text = root_text;
  minor = omega arith;
  fields = All-from_recursion IsField [] tt;
}

field_of_host : IsField host
unfolding is_token_byte
field_of_host = record { name = (omega arith, AllPass-from_test is_token_byte (codes "Host") refl); raw = AllPass-from_test is_value_byte (codes " localhost") refl }

pub head_posted : IsRequestHead posted
unfolding is_token_byte
head_posted = record {
  method = (omega arith, AllPass-from_test is_token_byte (codes "POST") refl);
  target = (omega arith, AllPass-from_test is_uri_byte (codes "/windows") refl);
  target_text = windows_text;
  minor = omega arith;
  fields = All-from_recursion IsField posted.fields (
    field_of_host,
    (
      record { name = (omega arith, AllPass-from_test is_token_byte (codes "Content-Length") refl); raw = AllPass-from_test is_value_byte (codes " 3") refl },
      tt,
    ),
  );
}
