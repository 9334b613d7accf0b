use Rattle.dv_print.proofs.Vocabulary.{IfOk-weaker, Some, codes, head_record, map, option_map, option_to_list, refl, text_written}
use Rattle.dv_print.proofs.WrittenTexts.{text_of_parts}
use Rattle.dv_print.proofs.windows_texts.windows_text.Goals as goal

pub returns : goal.returns
returns c =
    IfOk-weaker c.text_of.result _ _
    (λ text is.
    text_of_parts
    (text_written (λ bytes. Some bytes.items) c.new_writer-writer.result)
    (text_written (λ bytes. Some bytes.items) c.put_record.new.writer)
    (text_written (λ bytes. Some bytes.items) c.put_sealed.new.writer)
    (text_written (λ bytes. Some bytes.items) c.put_open.new.writer)
    text _ _
    (map (head_record c.args.catalog.now (codes "sealed")) c.args.sealed.now)
    (map (head_record c.args.catalog.now (codes "open")) (option_to_list (option_map (λ head. head.now) c.args.begun)))
    _ c.new_writer-writer.ensures.empty c.in_ok-put_record.ensures.text c.in_ok-put_sealed.ensures.text c.in_ok-put_open.ensures.text is c.in_ok-fields.ensures refl)
    c.text_of.ensures
