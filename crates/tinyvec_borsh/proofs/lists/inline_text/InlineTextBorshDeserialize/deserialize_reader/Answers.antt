use Rattle.std.proofs.Common.{◌∙◌, IsUtf8, ap, refl, subst, sym}
use Rattle.std.proofs.lemmas.List.{map-id}
use Rattle.std.proofs.lemmas.Result.{err_from_is_err_and}
use Rattle.tinyvec.specs.TinyVec.{tiny_items}
use Rattle.tinyvec_text.specs.InlineText.{Text}
use Rattle.tinyvec_borsh.specs.Reading.{ReadsSpelling}
use Rattle.tinyvec_borsh.specs.Text.{AreBytes, SpellsText}
use Rattle.tinyvec_borsh.specs.TextLaws.{bytes_apart}
use Rattle.tinyvec_borsh.proofs.AtFaults.{some-all, utf8_is_other}
use Rattle.tinyvec_borsh.proofs.ItemByItem.{fails-as}
use Rattle.tinyvec_borsh.proofs.Texts.{bytes-other, no-text, text-reason}
use Rattle.tinyvec_borsh.proofs.lists.inline_text.InlineTextBorshDeserialize.deserialize_reader.Goals as goal

pub returns-in_err-bytes-clause-fails : goal.returns-in_err-bytes-clause-fails
returns-in_err-bytes-clause-fails g c =
    let p = err_from_is_err_and c.from_residual.result c.from_residual.ensures.1 in
    rw (p.1, p.2) (fails-as (text-reason g.row.N) c.in_err-bytes.ensures.fails)

pub returns-in_err-bytes-clause-rest : goal.returns-in_err-bytes-clause-rest
returns-in_err-bytes-clause-rest g c =
    let p = err_from_is_err_and c.from_residual.result c.from_residual.ensures.1 in
    rw (p.1, p.2) (λ is. absurd (bytes-other g.row.N _ _ _ _ c.in_err-bytes.ensures.fails.err is))

pub returns-in-Some-clause-ok : goal.returns-in-Some-clause-ok
returns-in-Some-clause-ok g c =
    subst (λ xs. ReadsSpelling (SpellsText xs) (g.R.Read.remaining c.args.reader.now.inner) (g.R.Read.remaining c.deserialize_reader.new.reader.inner)) (map-id (tiny_items c.in_ok-bytes.bytes) ∙ sym (ap (λ (t : Text). t.bytes) c.in-Some.ensures.value)) c.in_ok-bytes.ensures.ok

pub returns-in-Some-clause-valid : goal.returns-in-Some-clause-valid
returns-in-Some-clause-valid g c = (
  subst AreBytes (map-id (tiny_items c.in_ok-bytes.bytes) ∙ sym (ap (λ (t : Text). t.bytes) c.in-Some.ensures.value)) c.in_ok-bytes.ensures.valid,
  subst IsUtf8 (sym (ap (λ (t : Text). t.bytes) c.in-Some.ensures.value)) (c.in-Some.ensures.variant.0 refl),
)

pub returns-in-None-clause-fails : goal.returns-in-None-clause-fails
returns-in-None-clause-fails g c =
    let read = c.in_ok-bytes.ensures in
    let bytes = map-id (tiny_items c.in_ok-bytes.bytes) in
    let fits = subst AreBytes bytes read.valid in
    let ok = subst (λ xs. ReadsSpelling (SpellsText xs) (g.R.Read.remaining c.args.reader.now.inner) (g.R.Read.remaining c.deserialize_reader.new.reader.inner)) bytes read.ok in
    record {
      err = no-text (tiny_items c.in_ok-bytes.bytes) _ _ (fits, λ utf8. let is = c.in-None.ensures.variant.1 utf8 in cc) ok;
      taken = some-all _ _ ok.0 ok.2 (λ front back some is. (bytes_apart g.row.N).front_is_cut (tiny_items c.in_ok-bytes.bytes) front back some fits (subst (SpellsText (tiny_items c.in_ok-bytes.bytes)) is ok.1)) _ utf8_is_other;
      grows = read.fails.grows;
      failed = read.fails.failed;
    }

pub returns-in-None-clause-rest : goal.returns-in-None-clause-rest
returns-in-None-clause-rest g c =
    let bytes = map-id (tiny_items c.in_ok-bytes.bytes) in
    λ is. (tiny_items c.in_ok-bytes.bytes, (subst AreBytes bytes c.in_ok-bytes.ensures.valid, λ utf8. let is = c.in-None.ensures.variant.1 utf8 in cc), subst (λ xs. ReadsSpelling (SpellsText xs) (g.R.Read.remaining c.args.reader.now.inner) (g.R.Read.remaining c.deserialize_reader.new.reader.inner)) bytes c.in_ok-bytes.ensures.ok)
