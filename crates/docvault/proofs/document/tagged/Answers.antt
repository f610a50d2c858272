use Rattle.std.proofs.Common.{◌≡◌, ◌++◌, List, ℕ, ap, ◌∙◌}
use Rattle.docvault.specs.Keys.{mac_key_of}
use Rattle.docvault.specs.Hmac.{hmac_of}
use Rattle.docvault.proofs.document.tagged.Goals as goal

pub returns : goal.returns
returns c =
    let tag : c.hmac-tag.result ≡ hmac_of (mac_key_of c.args.key.now) c.args.text.items = c.hmac-tag.ensures ∙ ap (λ (k : List ℕ). hmac_of k c.as_slice.result.now) c.mac_key.ensures ∙ ap (hmac_of (mac_key_of c.args.key.now)) c.as_slice.ensures.value in
    c.in_ok-extend_from_slice.ensures.items ∙ ap (λ (t : List ℕ). c.args.text.items ++ t) tag
