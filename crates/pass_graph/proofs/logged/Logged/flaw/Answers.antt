use Rattle.pass_graph.proofs.logged.Logged.flaw.Goals as goal

pub returns-in-Object : goal.returns-in-Object
returns-in-Object c = rw c.in-Object.is c.object_flaw.ensures

pub returns-in-Name : goal.returns-in-Name
returns-in-Name c = rw c.in-Name.is c.name_flaw.ensures

pub returns-in-Attr : goal.returns-in-Attr
returns-in-Attr c = rw c.in-Attr.is (λ list s. c.attr_flaw.ensures list c.in-Attr.attr c.in-Attr.value s)

pub returns-in-Input : goal.returns-in-Input
returns-in-Input c = rw c.in-Input.is c.input_flaw.ensures

pub returns-in-Size : goal.returns-in-Size
returns-in-Size c = rw c.in-Size.is (λ list s. c.size_flaw.ensures list c.in-Size.size s)

pub returns-in-Digest : goal.returns-in-Digest
returns-in-Digest c = rw c.in-Digest.is (λ list s. c.digest_flaw.ensures list c.in-Digest.md5 s)
